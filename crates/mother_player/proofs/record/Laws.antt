-- The channels of a header and of a record, gone through together.
use mathlib.Core.List.{List}
use mathlib.Core.Path.{◌≡◌, refl}
use Rattle.std.specs.Prelude.{Option}
use Rattle.std.specs.List.{list_all, zip}
use Rattle.engine_base.proofs.Channels.{all_zipped}
use Rattle.mother_format.specs.declared.header.Voice.{Voice}
use Rattle.mother_player.specs.Record.{channel_fits, channels_fit}
use Rattle.mother_player.specs.declared.record.Channel.{Channel}

pub fits_zipped : (vs : List (Option Voice)) (cs : List Channel) →
    list_all (λ (p : Option Voice × Channel). channel_fits p.0 p.1) (zip vs cs) ≡ channels_fit vs cs
fits_zipped = all_zipped channel_fits channels_fit (λ _. refl) (λ _ _. refl) (λ _ _ _ _. refl)
