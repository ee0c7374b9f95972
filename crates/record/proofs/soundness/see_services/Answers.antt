-- `see_services` meets its contract: what each pass gives, by what its closures say of one service. Assumes nothing.
use Rattle.std.proofs.Common.{true, ◌∙◌, ap, arith, rules}
use Rattle.record.specs.declared.soundness.Seen.{Seen}
use Rattle.record.specs.Limits.{channel_fits}
use Rattle.record.specs.Record.{no_flag, no_mutex, no_channel}
use Rattle.record.specs.Sound.{user_owner}
use Rattle.record.specs.Check.{mutexes_seen, readers_seen, writers_seen}
use Rattle.record.proofs.Passes.{gives, pass, pass_first}
use Rattle.record.proofs.soundness.see_services.Goals as goal

pub returns : goal.returns
returns c =
    let s = c.args.s in
    let f = c.args.flag.now in
    let o = c.args.mutex.now in
    let d = c.args.channel.now in
    let w = c.args.waiting.now in
    let flags = c.see_all-flags.ensures _ _ (gives _ _ f _ no_flag (λ x. x.waiters) (λ x r p. search rules)) (gives _ _ f _ no_flag (λ x. true) (λ x r p. search rules)) in
    let mutexes = c.see_all-mutexes.ensures _ _ (gives _ _ o _ no_mutex (λ x. x.waiters) (λ x r p. search rules)) (gives _ _ o _ no_mutex (λ x. user_owner s.processes x.owner) (λ x r p. search rules)) in
    let readers = c.see_all-readers.ensures _ _ (gives _ _ d _ no_channel (λ x. x.readers) (λ x r p. search rules)) (gives _ _ d _ no_channel (λ x. channel_fits x) (λ x r p. search rules)) in
    let writers = c.see_all.ensures _ _ (gives _ _ d _ no_channel (λ x. x.writers) (λ x r p. search rules)) (gives _ _ d _ no_channel (λ x. true) (λ x r p. search rules)) in
    writers ∙ pass d w 20 4 _ _ _ _ (omega (arith, c.requires)) c.requires.channels
    ∙ ap (λ (m : Seen). writers_seen d w m s.channels)
    (readers ∙ pass d w 16 4 _ _ _ _ (omega (arith, c.requires)) c.requires.channels
    ∙ ap (λ (m : Seen). readers_seen d w m s.channels)
    (mutexes ∙ pass o w 8 8 _ _ _ _ (omega (arith, c.requires)) c.requires.mutexes
    ∙ ap (λ (m : Seen). mutexes_seen s.processes o w m s.mutexes)
    (flags ∙ pass_first f w 8 _ _ _ _ (omega (arith, c.requires)) c.requires.flags)))
