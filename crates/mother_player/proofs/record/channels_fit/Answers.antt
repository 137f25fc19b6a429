use Rattle.std.proofs.Common.{rules, tests, ◌∙◌}
use Rattle.std.specs.Prelude.{Option}
use Rattle.std.proofs.lemmas.Iterator.{YieldsList-from_slice, YieldsList-from_zip}
use Rattle.std.proofs.lemmas.Iterator.Search.{all_from_yields_List}
use Rattle.mother_format.specs.declared.header.Voice.{Voice}
use Rattle.mother_player.specs.declared.record.Channel.{Channel}
use Rattle.mother_player.specs.Record.{channel_fits}
use Rattle.mother_player.proofs.record.Laws.{fits_zipped}
use Rattle.mother_player.proofs.record.channels_fit.Goals as goal

pub returns : goal.returns
returns c =
    let a = c.args in
    all_from_yields_List (λ (p : Option Voice × Channel). channel_fits p.0 p.1) c.all.new.self _ c.all.result c.all.ensures.ran
    (YieldsList-from_zip (YieldsList-from_slice a.voices cc) (YieldsList-from_slice a.channels cc))
    (λ x b q k. search (rules, tests))
    ∙ fits_zipped a.voices a.channels
