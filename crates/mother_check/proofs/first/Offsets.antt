-- Where the faults of a command stand: from its first byte on, and before the next command.
use Prim.Native.Nat.{ℕ, ◌+◌, ◌≤◌, ◌<◌}
use mathlib.Core.Bool.{Bool, true, false}
use mathlib.Core.List.{List, [], ◌∷◌}
use mathlib.Core.Path.{◌≡◌, refl, sym, subst, ◌∙◌}
use native.Mathlib.Omega.{arith}
use lib.Dec.{leb, eqb}
use lib.ListN.{length, get_or}
use Rattle.std.specs.Prelude.{Ok, Err, Option, Some, None, Result}
use Rattle.engine_base.specs.Pick.{pick}
use Rattle.engine_base.specs.declared.refusal.Refusal.{Refusal}
use Rattle.engine_base.specs.declared.refusal.Refusal.TheVariants.{InvalidNote, PastData}
use Rattle.engine_base.specs.declared.time.Frames.{Frames}
use Rattle.engine_base.proofs.Picks.{by-test, false_true, refused_given}
use Rattle.mother_format.specs.Transpose.{is_odd}
use Rattle.mother_format.specs.Command.{is_note, rule_of, needed, note_after, timbre_after, command_by, command_at}
use Rattle.mother_format.specs.Channel.{Source, refused_at, unless_refused, length_at, early_fault, sounding_of, length_played, note_played, played_of, played_by, played_rule, played_at}
use Rattle.mother_format.specs.Straight.{is_end}
use Rattle.mother_format.specs.declared.command.Rule.{Rule}
use Rattle.mother_format.specs.declared.command.Command.{Command}
use Rattle.mother_format.specs.Command.{Decoded}
use Rattle.mother_format.specs.declared.channel.Setting.{Setting}
use Rattle.mother_format.specs.declared.channel.Played.{Played}
use Rattle.mother_check.specs.Faults.{fault_by, length_by, command_faults}
use Rattle.mother_check.proofs.Member.{In, here, there}
use Rattle.mother_check.proofs.first.Order.{each_of}
use Rattle.mother_check.specs.declared.faults.Site.{Site}
use Rattle.mother_check.specs.declared.faults.Fault.{Fault}

-- an offset that what stands at another may be refused under: of what is found one of its own bytes, and of the end none
abbrev Under : ℕ → Decoded → ℕ → Type 0
Under at (Ok (c, next)) offset = (at ≤ offset) × (offset < next) × (is_end c ≡ false)
Under at (Err (refusal, stop)) offset = at ≤ offset

abbrev Refuses : (ℕ → Type 0) → Played → Type 0
Refuses P Played.End = Unit {0}
Refuses P (Played.Transpose m next) = Unit {0}
Refuses P (Played.Window t next) = Unit {0}
Refuses P (Played.EndLoop next) = Unit {0}
Refuses P (Played.BeginLoop counter next) = Unit {0}
Refuses P (Played.Length b frames next) = Unit {0}
Refuses P (Played.Timbre x c next) = Unit {0}
Refuses P (Played.Note b next) = Unit {0}
Refuses P (Played.Refused refusal offset address) = P offset

module _ (source : Source) (setting : Setting) (frames : Frames) (at : ℕ) where
  abbrev play : Command → ℕ → Played
  play = played_of source.bank source.places source.kind source.start setting frames at

  abbrev Fits : Decoded → Type 0
  Fits d = Refuses (Under at d) (played_by source.start play d)

  needs : (spot : ℕ) (go : ℕ → Decoded) → at ≤ spot → Fits (go (get_or source.bytes spot 0)) → Fits (needed source.bytes spot go)
  needs spot go h k = by-test Fits (leb (length source.bytes) spot) (λ _. h) (λ _. k)

  length_fits : (l b next : ℕ) → next ≡ at + 2 → Fits (Ok (Command.Length l b, next))
  length_fits l b next e = from (sounding_of source.kind b setting.transpose)
    where
      from : (s : Option ℕ) →
          Refuses (Under at (Ok (Command.Length l b, next)))
          (length_played source.start (at + 1) (record { count = length_at source.bank source.places.note_lengths setting.window l }) next s)
      from (Some sound) = tt
      from None = (omega arith, omega arith, refl)

  note_fits : (b next : ℕ) → next ≡ at + 1 → Fits (Ok (Command.Note b, next))
  note_fits b next e = from (sounding_of source.kind b setting.transpose)
    where
      from : (s : Option ℕ) → Refuses (Under at (Ok (Command.Note b, next))) (note_played source.start at frames next s)
      from (Some sound) =
          by-test (Refuses (Under at (Ok (Command.Note b, next)))) (eqb frames.count 0) (λ _. (omega arith, omega arith, refl)) (λ _. tt)
      from None = (omega arith, omega arith, refl)

  rule_fits : (rule : Result Rule Refusal) → Fits (command_by source.kind source.bytes at rule)
  unfolding note_after timbre_after
  rule_fits (Ok Rule.End) = tt
  rule_fits (Ok Rule.Transpose) =
      needs (at + 1) (λ m. Ok (Command.Transpose m, at + 1 + 1)) (omega arith)
      (by-test (Refuses (Under at (Ok (Command.Transpose (get_or source.bytes (at + 1) 0), at + 1 + 1)))) (is_odd (get_or source.bytes (at + 1) 0))
      (λ _. (omega arith, omega arith, refl)) (λ _. tt))
  rule_fits (Ok Rule.Window) = needs (at + 1) (λ t. Ok (Command.Window t, at + 1 + 1)) (omega arith) tt
  rule_fits (Ok Rule.EndLoop) = tt
  rule_fits (Ok (Rule.Length l)) =
      needs (at + 1) (λ b. pick (is_note source.kind b) (Ok (Command.Length l b, at + 1 + 1)) (Err (InvalidNote, at + 1))) (omega arith)
      (by-test Fits (is_note source.kind (get_or source.bytes (at + 1) 0)) (λ _. length_fits l _ _ (omega arith)) (λ _. omega arith))
  rule_fits (Ok (Rule.BeginLoop n)) = tt
  rule_fits (Ok Rule.Timbre) =
      needs (at + 1) (λ x. needed source.bytes (at + 1 + 1) (λ c. Ok (Command.Timbre x c, at + 1 + 1 + 1))) (omega arith)
      (needs (at + 1 + 1) (λ c. Ok (Command.Timbre (get_or source.bytes (at + 1) 0) c, at + 1 + 1 + 1)) (omega arith) tt)
  rule_fits (Ok Rule.Note) = note_fits _ _ refl
  rule_fits (Err refusal) = omega arith

  abbrev HereUnder : Decoded → Type 0
  HereUnder d = Under at d at

  -- 12, 13, 6 and 7 are of BL and 9f
  early_under : (rule : Result Rule Refusal) → (refusal : Refusal) → early_fault source.bank source.places source.kind source.bytes setting.window at rule ≡ Err refusal →
      HereUnder (command_by source.kind source.bytes at rule)
  unfolding note_after timbre_after
  early_under (Ok Rule.End) refusal z = absurd (refused_given refusal tt (sym z))
  early_under (Ok Rule.Transpose) refusal z = absurd (refused_given refusal tt (sym z))
  early_under (Ok Rule.Window) refusal z = absurd (refused_given refusal tt (sym z))
  early_under (Ok Rule.EndLoop) refusal z = absurd (refused_given refusal tt (sym z))
  early_under (Ok (Rule.Length l)) refusal z =
      by-test HereUnder (leb (length source.bytes) (at + 1)) (λ _. omega arith) λ _.
      by-test HereUnder (is_note source.kind (get_or source.bytes (at + 1) 0)) (λ _. (omega arith, omega arith, refl)) (λ _. omega arith)
  early_under (Ok (Rule.BeginLoop n)) refusal z = absurd (refused_given refusal tt (sym z))
  early_under (Ok Rule.Timbre) refusal z =
      by-test HereUnder (leb (length source.bytes) (at + 1)) (λ _. omega arith) λ _.
      by-test HereUnder (leb (length source.bytes) (at + 1 + 1)) (λ _. omega arith) (λ _. (omega arith, omega arith, refl))
  early_under (Ok Rule.Note) refusal z = absurd (refused_given refusal tt (sym z))
  early_under (Err other) refusal z = absurd (refused_given refusal tt (sym z))

  rule_under : (rule : Result Rule Refusal) → Refuses (Under at (command_by source.kind source.bytes at rule)) (played_rule source setting frames at rule)
  unfolding played_rule
  rule_under rule = by (early_fault source.bank source.places source.kind source.bytes setting.window at rule) refl
    where
      by : (x : Result (Unit {0}) Refusal) → early_fault source.bank source.places source.kind source.bytes setting.window at rule ≡ x →
          Refuses (Under at (command_by source.kind source.bytes at rule))
          (unless_refused source.start at x (played_by source.start play (command_by source.kind source.bytes at rule)))
      by (Ok none) e = rule_fits rule
      by (Err refusal) e = early_under rule refusal e

  played_under : Refuses (Under at (command_at source.kind source.bytes at)) (played_at source setting frames at)
  unfolding command_at played_at
  played_under = by (leb (length source.bytes) at)
    where
      rule : Result Rule Refusal
      rule = rule_of source.kind (get_or source.bytes at 0)

      by : (past : Bool) →
          Refuses (Under at (pick past (Err (PastData, at)) (command_by source.kind source.bytes at rule)))
          (pick past (refused_at source.start PastData at) (played_rule source setting frames at rule))
      by true = omega arith
      by false = rule_under rule

under_from : (at : ℕ) (d : Decoded) (offset : ℕ) → Under at d offset → at ≤ offset
under_from at (Ok (c, next)) offset u = u.0
under_from at (Err (refusal, stop)) offset u = u

pub record From (site : Site) (at : ℕ) (f : Fault) : Type 0 where
  pub channel : f.channel ≡ site.channel
  pub place : f.place ≡ site.place
  pub offset : at ≤ f.at

module _ (source : Source) (site : Site) (at : ℕ) where
  abbrev Finds : Command → ℕ → Type 0
  Finds c next = command_at source.kind source.bytes at ≡ Ok (c, next)

  pub record Stands (f : Fault) : Type 0 where
    pub from : From site at f
    pub before : {c : Command} {next : ℕ} → Finds c next → (f.at < next) × (is_end c ≡ false)

  by_stands : (f : Fault) (played : Played) → Refuses (Under at (command_at source.kind source.bytes at)) played → In f (fault_by site played) → Stands f
  by_stands f (Played.Refused refusal offset address) u here = record {
    from = record { channel = refl; place = refl; offset = under_from at (command_at source.kind source.bytes at) offset u };
    before = λ e. let (low, high, more) = subst (λ d. Under at d offset) e u in (high, more);
  }
  by_stands f Played.End u x'' = elim x'' [ ]
  by_stands f (Played.Transpose _ _) u x5 = elim x5 [ ]
  by_stands f (Played.Window _ _) u x6 = elim x6 [ ]
  by_stands f (Played.EndLoop _) u x6 = elim x6 [ ]
  by_stands f (Played.BeginLoop _ _) u x8 = elim x8 [ ]
  by_stands f (Played.Length _ _ _) u x10 = elim x10 [ ]
  by_stands f (Played.Timbre _ _ _) u x11 = elim x11 [ ]
  by_stands f (Played.Note _ _) u x11 = elim x11 [ ]
  by_stands f (Played.Refused refusal offset address) u (there x13) = elim x13 [ ]

  pub command_stands : (ss : List Setting) (sized : Bool) (f : Fault) → In f (command_faults source site ss sized at) → Stands f
  unfolding command_faults
  command_stands (s ∷ ss) sized f m =
      each_of Stands (fault_by site (played_at source s (length_by sized) at)) (command_faults source site ss sized at)
      (λ f. by_stands f (played_at source s (length_by sized) at) (played_under source s (length_by sized) at)) (command_stands ss sized) f m
  command_stands [] sized f m = elim m [ ]

  pub end_clean : (ss : List Setting) (sized : Bool) {c : Command} {next : ℕ} → Finds c next → is_end c ≡ true → command_faults source site ss sized at ≡ []
  end_clean ss sized {c} e i = none (command_faults source site ss sized at) (command_stands ss sized)
    where
      none : (fs : List Fault) → ((f : Fault) → In f fs → Stands f) → fs ≡ []
      none [] k = refl
      none (f ∷ fs) k = absurd (false_true (sym ((k f here).before e).1 ∙ i))
