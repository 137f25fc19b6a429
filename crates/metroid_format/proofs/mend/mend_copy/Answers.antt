use Rattle.metroid_format.proofs.mend.Owed.{copy_mended}
use Rattle.metroid_format.proofs.mend.mend_copy.Goals as goal

pub returns : goal.returns
returns c = search copy_mended depth 10
