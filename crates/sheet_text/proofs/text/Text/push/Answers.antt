-- `push`: a part of the buffer is written over by the text.
use Rattle.std.proofs.Common.{refl, ap, ◌∙◌, ◌+◌, ◌-◌, length, arith}
use borrow.Rule.Slice.PartMut.{put_mid}
use lib.Seq.{length-sets}
use Rattle.record.proofs.Lists.{put_sets}
use Rattle.sheet_text.proofs.text.Text.push.Goals as goal

pub returns : goal.returns
returns c =
    let text = c.args.self.now in
    let bytes = c.args.bytes.now in
    let end = text.end + length bytes in
    let is = ap (put_mid text.end (end - text.end) text.out.now) c.copy_from_slice.ensures.after ∙ put_sets text.out.now text.end _ bytes (omega arith) (omega arith) in
    record { same = refl; size = ap length is ∙ length-sets text.out.now text.end bytes; short = omega arith; end = refl; is = is }
