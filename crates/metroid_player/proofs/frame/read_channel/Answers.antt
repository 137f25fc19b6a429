use Rattle.metroid_player.proofs.frame.Laws.{reading_is}
use Rattle.metroid_player.proofs.frame.read_channel.Goals as goal

pub returns : goal.returns
returns c =
    let a = c.args in
    reading_is a.bank.now a.track a.voice a.channel _ c.source_at-source.ensures _ c.from.ensures _ c.read_until.ensures
