use Rattle.metroid_text.proofs.hex.Laws.{hex_room, hex_writes}
use Rattle.metroid_text.proofs.line.Line.hex.Goals as goal

pub text-requires : goal.text-requires
text-requires c =
    let h = c.hex-count.ensures in
    hex_room c.args.number _ _ (rw c.from.ensures at h.len) (rw c.from.ensures at h.digits) _ c.requires

pub returns : goal.returns
returns c =
    let h = c.hex-count.ensures in
    hex_writes c.args.number _ _ (rw c.from.ensures at h.len) (rw c.from.ensures at h.digits) c.text.ensures
