-- A frame of a track without fault, from a record of such a track.
use Prim.Native.Nat.{ℕ, suc, ◌+◌}
use mathlib.Core.Bool.{false}
use mathlib.Core.List.{List, [], ◌∷◌}
use mathlib.Core.Path.{◌≡◌, refl}
use native.Mathlib.Omega.{arith}
use borrow.Author.Tests.{eqb-true}
use lib.Dec.{eqb}
use lib.ListN.{set}
use lib.Seq.{sets}
use Rattle.std.specs.Prelude.{Option, Some, None}
use Rattle.engine_base.specs.Channels.{four}
use Rattle.engine_base.specs.declared.answer.Answer.{Answer}
use Rattle.engine_base.proofs.Picks.{by-test}
use Rattle.mother_format.specs.Bank.{banks}
use Rattle.mother_format.specs.Transpose.{amount_of, is_odd}
use Rattle.mother_format.specs.declared.bank.Places.{Places}
use Rattle.mother_format.specs.declared.channel.Setting.{Setting}
use Rattle.mother_format.specs.declared.header.Voice.{Voice}
use Rattle.mother_format.specs.declared.header.Track.{Track}
use Rattle.mother_player.specs.Record.{fresh_channel, fresh_player, stopped_player, record_fits}
use Rattle.mother_player.specs.Frame.{one_off, turn_of, Settled, settle_on, settle_by, settle_from, framed_by, setting_of, frame_of_track}
use Rattle.mother_player.specs.declared.record.Channel.{Channel}
use Rattle.mother_player.specs.declared.record.Player.{Player}
use Rattle.mother_player.specs.Event.{off_event, event_of}
use Rattle.mother_player.specs.declared.event.Event.{Event}
use Rattle.engine_base.specs.declared.answer.Turned.{Turned}
use Rattle.mother_player.specs.declared.reading.Turn.{Turn}
use Rattle.mother_player.specs.declared.frame.Framed.{Framed}
use Rattle.mother_check.specs.Faults.{track_faults}
use Rattle.mother_check.specs.Run.{Accepted}
use Rattle.mother_check.proofs.Member.{In, here, there}
use Rattle.mother_check.proofs.clean.Settings.{header_in, transposes_even}
use Rattle.mother_check.proofs.run.Standing.{Sets, fresh, VoiceHolds, AllHold, all_fit}
use Rattle.mother_check.proofs.run.Turn.{TurnHolds, turn_holds}

sets_cons : (c : Channel) (cs : List Channel) (i : ℕ) (ds : List Channel) → sets (c ∷ cs) (suc i) ds ≡ c ∷ sets cs i ds
sets_cons c cs i [] = refl
sets_cons c cs i (d ∷ ds) = sets_cons c (set cs i d) (suc i) ds

module _ (bank8 banka : List ℕ) (places : Places) (track : Track) where
  -- of a record of the track, running or stopped
  pub record PlayerHolds (player : Player) : Type 0 where
    pub even : is_odd player.transpose ≡ false
    pub setting : player.stopped ≡ 0 → Sets bank8 banka track (setting_of player)
    pub channels : AllHold bank8 banka places track track.voices player.channels

  abbrev pub FrameHolds : Framed → Type 0
  FrameHolds f = Accepted f.answer × PlayerHolds f.player

  abbrev SettledHolds : List (Option Voice) → List Channel → Settled → Answer → Type 0
  SettledHolds vs cs s Answer.Events = Sets bank8 banka track s.setting × AllHold bank8 banka places track vs (sets cs 0 s.channels)
  SettledHolds vs cs s Answer.End = Unit {0}
  SettledHolds vs cs s Answer.Stopped = ⊥
  SettledHolds vs cs s (Answer.Refused refusal) = ⊥
  SettledHolds vs cs s (Answer.Fault refusal i at address) = ⊥

  settle_on_lem : (v : Option Voice) (vs : List (Option Voice)) (c : Channel) (cs : List Channel) (event : Event) (next : Channel) (count : ℕ) (rest : Settled) →
      VoiceHolds bank8 banka places track v next → (answer : Answer) → SettledHolds vs cs rest answer →
      SettledHolds (v ∷ vs) (c ∷ cs) (settle_on event next count rest) answer
  settle_on_lem v vs c cs event next count rest h Answer.Events (s, more) = (s, rw (sets_cons next cs 0 rest.channels) (h, more))
  settle_on_lem v vs c cs event next count rest h Answer.End more = tt
  settle_on_lem v vs c cs event next count rest h Answer.Stopped more = more
  settle_on_lem v vs c cs event next count rest h (Answer.Refused refusal) more = more
  settle_on_lem v vs c cs event next count rest h (Answer.Fault refusal i at address) more = more

  settle_by_lem : (i : ℕ) (v : Voice) (vs : List (Option Voice)) (c : Channel) (cs : List Channel) (t : Turn) (turned : Turned) (rest : Settled) →
      TurnHolds bank8 banka places track v t turned → (Sets bank8 banka track t.setting → SettledHolds vs cs rest rest.answer) →
      SettledHolds (Some v ∷ vs) (c ∷ cs) (settle_by (banks bank8 banka) places i v t turned rest) (settle_by (banks bank8 banka) places i v t turned rest).answer
  settle_by_lem i v vs c cs t Turned.Plays rest (s, h) more =
      settle_on_lem (Some v) vs c cs (event_of (banks bank8 banka) places v.kind t.channel t.began) (one_off t.channel) t.count rest h rest.answer (more s)
  settle_by_lem i v vs c cs t Turned.End rest h more = tt
  settle_by_lem i v vs c cs t (Turned.Refused refusal at address) rest h more = h

  none_hold : (vs : List (Option Voice)) → AllHold bank8 banka places track vs []
  none_hold [] = tt
  none_hold (v ∷ vs) = tt

  fresh_voice : (v : Option Voice) → VoiceHolds bank8 banka places track v fresh_channel
  fresh_voice None = tt
  fresh_voice (Some v) = fresh refl

  fresh_more : (cs : List Channel) → ((vs : List (Option Voice)) → AllHold bank8 banka places track vs cs) →
      (vs : List (Option Voice)) → AllHold bank8 banka places track vs (fresh_channel ∷ cs)
  fresh_more cs more [] = tt
  fresh_more cs more (v ∷ vs) = (fresh_voice v, more vs)

  fresh_hold : (vs : List (Option Voice)) → AllHold bank8 banka places track vs (four fresh_channel)
  fresh_hold = fresh_more _ (fresh_more _ (fresh_more _ (fresh_more _ none_hold)))

  stopped_holds : PlayerHolds stopped_player
  unfolding is_odd amount_of
  stopped_holds = record { even = refl; setting = λ z. absurd (omega arith); channels = fresh_hold track.voices }

  module _ (even : is_odd track.transpose ≡ false) where
    pub start_holds : PlayerHolds (fresh_player track.transpose track.window)
    start_holds = record {
      even = even;
      setting = λ _. record { transpose_in = (header_in bank8 banka track).0; window_in = (header_in bank8 banka track).1 };
      channels = fresh_hold track.voices;
    }

    framed_holds : (player : Player) (s : Settled) (answer : Answer) → SettledHolds track.voices player.channels s answer →
        FrameHolds (framed_by player s answer)
    framed_holds player s Answer.Events (sets, h) =
        (tt, record { even = transposes_even bank8 banka track even sets.transpose_in; setting = λ _. sets; channels = h })
    framed_holds player s Answer.End h = (tt, stopped_holds)
    framed_holds player s Answer.Stopped h = absurd h
    framed_holds player s (Answer.Refused refusal) h = absurd h
    framed_holds player s (Answer.Fault refusal i at address) h = absurd h

    module _ (none : track_faults bank8 banka places track ≡ []) where
      settle_holds : (s : Setting) (i : ℕ) (vs : List (Option Voice)) (cs : List Channel) → ((v : Voice) → In (Some v) vs → In (Some v) track.voices) →
          Sets bank8 banka track s → AllHold bank8 banka places track vs cs →
          SettledHolds vs cs (settle_from bank8 banka places s i vs cs) (settle_from bank8 banka places s i vs cs).answer
      unfolding settle_from
      settle_holds s i [] cs among sets h = (sets, tt)
      settle_holds s i (v ∷ vs) [] among sets h = (sets, tt)
      settle_holds s i (None ∷ vs) (c ∷ cs) among sets (one, more) =
          let rest = settle_from bank8 banka places s (i + 1) vs cs in
          settle_on_lem None vs c cs off_event c 0 rest tt rest.answer (settle_holds s (i + 1) vs cs (λ w m. among w (there m)) sets more)
      settle_holds s i (Some v ∷ vs) (c ∷ cs) among sets (one, more) =
          let t = turn_of bank8 banka places s v c in
          settle_by_lem i v vs c cs t t.turned (settle_from bank8 banka places t.setting (i + 1) vs cs)
          (turn_holds bank8 banka places track even none v (among v here) s c sets one)
          (λ after. settle_holds t.setting (i + 1) vs cs (λ w m. among w (there m)) after more)

      pub frame_holds : (player : Player) → PlayerHolds player → FrameHolds (frame_of_track bank8 banka places track player)
      unfolding frame_of_track record_fits
      frame_holds player h =
          rw (h.even, all_fit bank8 banka places track track.voices player.channels h.channels)
          (by-test FrameHolds (eqb player.stopped 0)
          (λ z.
          let s = settle_from bank8 banka places (setting_of player) 0 track.voices player.channels in
          framed_holds player s s.answer
          (settle_holds (setting_of player) 0 track.voices player.channels (λ v m. m) (h.setting (eqb-true _ _ z)) h.channels)) λ _.
          (tt, h))
