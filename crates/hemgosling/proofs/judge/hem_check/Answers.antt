use Rattle.metroid_format.specs.Header.{header_of, channel_start}
use Rattle.metroid_check.proofs.verdict.Place.{verdict_within}
use Rattle.hemgosling.proofs.judge.hem_check.Goals as goal

pub tell_verdict-requires : goal.tell_verdict-requires
tell_verdict-requires c =
    let found = c.places_of-places.result in
    (channel_start (header_of c.args.bank.now found c.args.track), rw c.check.ensures.answer.same (verdict_within _ _ _))
