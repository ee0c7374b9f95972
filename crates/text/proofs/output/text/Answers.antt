-- `text::output::text` meets its contract: the part of the room that is copied to is the text. Assumes nothing.
use Rattle.std.proofs.Common.{ℕ, ◌+◌, ◌-◌, length, refl, sym, ap, ◌∙◌}
use borrow.Rule.Slice.PartMut.{put_mid}
use Rattle.text.proofs.Put.{put-part}
use Rattle.text.proofs.output.text.Goals as goal

pub returns : goal.returns
returns c = record {
  bytes =
      ap (put_mid c.args.at (c.args.at + length c.args.s.now - c.args.at) c.args.out.now) c.copy_from_slice.ensures.after
      ∙ sym (put-part {i = c.args.at} {s = c.args.s.now} (record { bytes = refl; place = refl }) c.requires);
  place = refl;
}
