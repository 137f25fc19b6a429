-- The channels of a run gone through in one frame: all play on, or the first that stops now breaks the frame off.
use Prim.Native.Nat.{ℕ, suc, ◌+◌, ◌<◌}
use mathlib.Core.Bool.{true}
use mathlib.Core.List.{List, [], ◌∷◌}
use mathlib.Core.Path.{◌≡◌, refl, ap}
use native.Mathlib.Omega.{arith}
use lib.ListN.{length}
use Rattle.std.specs.Prelude.{Option, Some, None, Ok, Err}
use Rattle.engine_base.specs.declared.refusal.Refusal.{Refusal}
use Rattle.metroid_format.specs.declared.header.Voice.{Voice}
use Rattle.metroid_format.specs.declared.header.Track.{Track}
use Rattle.metroid_format.specs.Timeline.{Finish}
use Rattle.metroid_player.specs.Record.{channel_fits, channels_fit}
use Rattle.metroid_player.specs.Event.{off_event}
use Rattle.metroid_player.specs.Frame.{Settled, settle_on, settle_turn, settle_from}
use Rattle.metroid_player.specs.declared.record.Channel.{Channel}
use Rattle.metroid_player.specs.declared.event.Event.{Event}
use Rattle.metroid_player.specs.declared.frame.Turn.{Turn}
use Rattle.engine_base.specs.declared.answer.Answer.{Answer}
use Rattle.metroid_player.proofs.frame.Counts.{AllLooped}
use Rattle.metroid_check.proofs.ahead.Running.{Running, running_fits, Turns, turns}

-- what is ahead of a channel: nothing of an unused one, else its stop after so many frames
pub data Ahead : Type 0 where
  nothing : Ahead
  stop : ℕ → Finish → Ahead

-- no channel stops now, and after this frame each stop is a frame nearer
pub data Nearer : List Ahead → List Ahead → Type 0 where
  none : Nearer [] []
  unused : {now then : List Ahead} → Nearer now then → Nearer (nothing ∷ now) (nothing ∷ then)
  used : {n : ℕ} {finish : Finish} {now then : List Ahead} → Nearer now then → Nearer (stop (suc n) finish ∷ now) (stop n finish ∷ then)

-- the first channel, in order, that stops now, and how
pub data Due : List Ahead → ℕ → Finish → Type 0 where
  here : {finish : Finish} {now : List Ahead} → Due (stop 0 finish ∷ now) 0 finish
  unused : {i : ℕ} {finish : Finish} {now : List Ahead} → Due now i finish → Due (nothing ∷ now) (suc i) finish
  used : {n i : ℕ} {other finish : Finish} {now : List Ahead} → Due now i finish → Due (stop (suc n) other ∷ now) (suc i) finish

-- the counts up to the i-th, which is above 0
pub data CountedTo : List ℕ → ℕ → Type 0 where
  last : {n : ℕ} → 0 < n → CountedTo (n ∷ []) 0
  more : {n i : ℕ} {ns : List ℕ} → CountedTo ns i → CountedTo (n ∷ ns) (suc i)

module _ (bank : List ℕ) (track : Track) where
  pub data AllRunning : List (Option Voice) → List Channel → List Ahead → Type 0 where
    none : AllRunning [] [] []
    unused : {vs : List (Option Voice)} {c : Channel} {cs : List Channel} {now : List Ahead} → AllRunning vs cs now →
        AllRunning (None ∷ vs) (c ∷ cs) (nothing ∷ now)
    used : {v : Voice} {vs : List (Option Voice)} {c : Channel} {cs : List Channel} {n : ℕ} {finish : Finish} {now : List Ahead} →
        Running bank track v c n finish → AllRunning vs cs now → AllRunning (Some v ∷ vs) (c ∷ cs) (stop n finish ∷ now)

  pub all_looped : {voices : List (Option Voice)} {channels : List Channel} {now : List Ahead} → AllRunning voices channels now →
      AllLooped 0 voices channels
  all_looped none = tt
  all_looped (unused rs) = (tt, all_looped rs)
  all_looped (used r rs) = (r.looped, all_looped rs)

  -- the channels' records pass 16
  pub all_fit : {voices : List (Option Voice)} {channels : List Channel} {now : List Ahead} → AllRunning voices channels now →
      channels_fit voices channels ≡ true
  unfolding channel_fits
  all_fit none = refl
  all_fit (unused rs) = all_fit rs
  all_fit (used r rs) = rw (running_fits bank track r) (all_fit rs)

  pub running_length : {voices : List (Option Voice)} {channels : List Channel} {now : List Ahead} → AllRunning voices channels now →
      length channels ≡ length voices
  running_length none = refl
  running_length (unused rs) = ap suc (running_length rs)
  running_length (used r rs) = ap suc (running_length rs)

  pub ahead_length : {voices : List (Option Voice)} {channels : List Channel} {now : List Ahead} → AllRunning voices channels now →
      length now ≡ length voices
  ahead_length none = refl
  ahead_length (unused rs) = ap suc (ahead_length rs)
  ahead_length (used r rs) = ap suc (ahead_length rs)

  -- what is settled from the i-th channel on
  pub data Settles (i : ℕ) (voices : List (Option Voice)) (now : List Ahead) : Settled → Type 0 where
    events : {es : List Event} {counts : List ℕ} {channels : List Channel} {then : List Ahead} → Nearer now then →
        AllRunning voices channels then →
        Settles i voices now (record { answer = Answer.Events; events = es; counts = counts; channels = channels })
    ends : {es : List Event} {counts : List ℕ} {channels : List Channel} {k : ℕ} → Due now k (Ok tt) → CountedTo counts k →
        Settles i voices now (record { answer = Answer.End; events = es; counts = counts; channels = channels })
    faults : {es : List Event} {counts : List ℕ} {channels : List Channel} {k channel : ℕ} {refusal : Refusal} {at address : ℕ} → Due now k (Err (refusal, at, address)) →
        channel ≡ i + k →
        Settles i voices now (record { answer = Answer.Fault refusal channel at address; events = es; counts = counts; channels = channels })

  module _ (i : ℕ) {voices : List (Option Voice)} {now : List Ahead} where
    settle_unused : {channel : Channel} (rest : Settled) → Settles (i + 1) voices now rest →
        Settles i (None ∷ voices) (nothing ∷ now) (settle_on off_event channel 0 rest)
    settle_unused _ (events d r) = events (Nearer.unused d) (AllRunning.unused r)
    settle_unused _ (ends d c) = ends (Due.unused d) (more c)
    settle_unused _ (faults {channel} d e) = faults {channel = channel} (Due.unused d) (omega arith)

    settle_used : {v : Voice} {n : ℕ} {finish : Finish} (t : Turn) (rest : Settled) → Turns bank track v n finish t →
        Settles (i + 1) voices now rest → Settles i (Some v ∷ voices) (stop n finish ∷ now) (settle_turn bank track i v t rest)
    settle_used _ _ (Turns.plays r) (events d rs) = events (Nearer.used d) (AllRunning.used r rs)
    settle_used _ _ (Turns.plays r) (ends d c) = ends (Due.used d) (more c)
    settle_used _ _ (Turns.plays r) (faults {channel} d e) = faults {channel = channel} (Due.used d) (omega arith)
    settle_used _ _ (Turns.ends c) s = ends here (last c)
    settle_used _ _ Turns.faults s = faults {channel = i} here (omega arith)

  pub settles : (i : ℕ) {voices : List (Option Voice)} {channels : List Channel} {now : List Ahead} → AllRunning voices channels now →
      Settles i voices now (settle_from bank track i voices channels)
  unfolding settle_from
  settles i none = events Nearer.none AllRunning.none
  settles i (unused rs) = settle_unused i _ (settles (i + 1) rs)
  settles i (used {v} r rs) = settle_used i _ _ (turns bank track v r) (settles (i + 1) rs)
