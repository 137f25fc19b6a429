use mathlib.Core.Path.{ap, ◌∙◌}
use Rattle.metroid_format.specs.Timeline.{timeline_of}
use Rattle.metroid_format.proofs.channel.Sourced.{source_cut}
use Rattle.metroid_format.proofs.timeline.channel_timeline.Goals as goal

pub returns : goal.returns
returns c =
    let a = c.args in
    c.timeline_of.ensures.answer.same ∙ ap timeline_of (source_cut a.bank.now a.track a.voice _ c.source_at.ensures)
