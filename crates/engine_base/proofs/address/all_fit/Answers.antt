use mathlib.Core.Path.{refl, ◌∙◌}
use Rattle.std.proofs.Common.{rules}
use borrow.Author.Tests.{tests}
use Rattle.std.proofs.lemmas.Iterator.{YieldsList-from_slice, YieldsList-from_zip}
use Rattle.std.proofs.lemmas.Iterator.Search.{all_from_yields_List}
use Rattle.engine_base.proofs.Channels.{all_zipped}
use Rattle.engine_base.specs.Address.{within, all_within}
use Rattle.engine_base.proofs.address.all_fit.Goals as goal

pub returns : goal.returns
returns c =
    all_from_yields_List (λ p. within p.0 p.1) c.all.new.self _ c.all.result c.all.ensures.ran
    (YieldsList-from_zip (YieldsList-from_slice c.args.addresses.now (cc)) (YieldsList-from_slice c.args.sizes.now (cc)))
    (λ x b q k. search (rules, tests))
    ∙ all_zipped within all_within (λ _. refl) (λ _ _. refl) (λ _ _ _ _. refl) c.args.addresses.now c.args.sizes.now
