-- What 16 leaves of a record.
use Prim.Native.Nat.{◌≤◌}
use mathlib.Core.Bool.{Bool, true}
use mathlib.Core.List.{List}
use mathlib.Core.Path.{◌≡◌, refl}
use Rattle.std.specs.Prelude.{Option, Some}
use Rattle.std.specs.List.{list_all, zip}
use Rattle.engine_base.proofs.Channels.{all_zipped}
use lib.Dec.{leb}
use borrow.Author.Tests.{leb-true}
use Rattle.engine_base.proofs.Picks.{by-test, false_true}
use Rattle.metroid_format.specs.Command.{data_limit}
use Rattle.metroid_format.specs.declared.header.Voice.{Voice}
use Rattle.metroid_player.specs.Record.{channel_fits, channels_fit, most_frames, record_fits}
use Rattle.metroid_player.specs.declared.record.Channel.{Channel}
use Rattle.metroid_player.specs.declared.record.Player.{Player}

-- the code goes through both lists at once
pub fits_zipped : (vs : List (Option Voice)) (cs : List Channel) → list_all (λ (p : Option Voice × Channel). channel_fits p.0 p.1) (zip vs cs) ≡ channels_fit vs cs
fits_zipped = all_zipped channel_fits channels_fit (λ _. refl) (λ _ _. refl) (λ _ _ _ _. refl)

-- what 16 leaves of a used channel's offsets
offsets_fit : (v : Voice) (c : Channel) → channel_fits (Some v) c ≡ true → (c.next ≤ data_limit) × (c.loop_start ≤ data_limit)
unfolding channel_fits
offsets_fit v c =
    by-test (λ x. x ≡ true → (c.next ≤ data_limit) × (c.loop_start ≤ data_limit)) (leb c.next data_limit)
    (λ n. by-test (λ x. x ≡ true → (c.next ≤ data_limit) × (c.loop_start ≤ data_limit)) (leb c.loop_start data_limit)
    (λ l _. (leb-true _ _ n, leb-true _ _ l))
    (λ _ z. absurd (false_true z)))
    (λ _ z. absurd (false_true z))

pub next_fits : (v : Voice) (c : Channel) → channel_fits (Some v) c ≡ true → c.next ≤ data_limit
next_fits v c f = (offsets_fit v c f).0

pub start_fits : (v : Voice) (c : Channel) → channel_fits (Some v) c ≡ true → c.loop_start ≤ data_limit
start_fits v c f = (offsets_fit v c f).1

-- what 16 leaves of a record
pub fits_channels : (vs : List (Option Voice)) (p : Player) → record_fits vs p ≡ true → channels_fit vs p.channels ≡ true
unfolding record_fits
fits_channels vs p =
    by-test Fits (leb p.frames_left most_frames)
    (λ _. by-test Fits (leb p.pass_length most_frames) (λ _ f. f) λ _ z. absurd (false_true z)) λ _ z.
    absurd (false_true z)
  where
    Fits : Bool → Type 0
    Fits b = b ≡ true → channels_fit vs p.channels ≡ true
