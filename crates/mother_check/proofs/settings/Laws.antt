-- The extremes of what is set, a window, a command, a block and a channel at a time.
use Prim.Native.Nat.{ℕ, ◌+◌, ◌-◌, ◌≤◌, ◌<◌}
use mathlib.Core.Bool.{Bool, true, false}
use mathlib.Core.List.{List, [], ◌∷◌, ◌++◌, append-nil}
use mathlib.Core.Logic.{◌⊎◌, inl, inr}
use mathlib.Core.Path.{◌≡◌, refl, sym, ap, ◌∙◌}
use native.Mathlib.Nat.{sub-zero}
use native.Mathlib.Omega.{arith}
use native.Mathlib.Numerals.{add-one}
use borrow.Author.Tests.{lt-ltb, le-ltb}
use lib.Dec.{ltb}
use lib.ListN.{length, get_or, set, take, drop, drop_of_length-le, length-set}
use lib.Seq.{drop-cons, drop-set-lt, take-suc-set, take_all, append_snoc}
use Rattle.std.specs.Prelude.{Option, Some, None, Ok, Err}
use Rattle.engine_base.specs.Pick.{pick}
use Rattle.engine_base.proofs.Channels.{drop_next}
use Rattle.engine_base.specs.declared.refusal.Refusal.{Refusal}
use Rattle.mother_format.specs.Bank.{banks}
use Rattle.mother_format.specs.Command.{command_at}
use Rattle.mother_format.specs.Straight.{Straight, is_end, straight_by, straight}
use Rattle.mother_format.specs.declared.command.Kind.{Kind}
use Rattle.mother_format.specs.declared.command.Command.{Command}
use Rattle.mother_format.specs.Command.{Decoded}
use Rattle.mother_format.specs.declared.header.Voice.{Voice}
use Rattle.mother_check.specs.Walk.{addresses, word_at, marks_at, Named, named_by, named_from}
use Rattle.mother_check.specs.Extremes.{rank_of, worse_window, worse_from, with_command, with_commands, with_block, with_named, with_channel, with_voices}
use Rattle.mother_check.proofs.reading.Straight.{rest_from, rest_is, rest_none}
use Rattle.mother_check.proofs.walk.Turns.{names_none, names_step, still_marked}
use Rattle.mother_check.specs.declared.walk.Spot.{Spot}
use Rattle.mother_check.specs.declared.walk.Word.{Word}
use Rattle.mother_check.specs.declared.walk.Word.TheVariants.{Done, Bad, Goto, Block}
use Rattle.mother_check.specs.declared.settings.Extremes.{Extremes}

-- a transpose that is not odd may be the new lowest, and then the new highest
module _ (e : Extremes) (m : ℕ) where
  abbrev lowered : Extremes
  lowered = record { low = pick (ltb (rank_of m) (rank_of e.low)) m e.low; high = e.high; windows = e.windows }

  -- by which arm the code came
  pub lower_came : (x : Extremes) (a b : ℕ) → a ≡ rank_of m → b ≡ rank_of e.low →
      ((a < b) × (x ≡ record { low = m; high = e.high; windows = e.windows })) ⊎ ((b ≤ a) × (x ≡ e)) → x ≡ lowered
  lower_came x a b p q (inl (h, f)) = f ∙ rw (lt-ltb (rank_of m) (rank_of e.low) (omega arith))
  lower_came x a b p q (inr (h, f)) = f ∙ rw (le-ltb (rank_of m) (rank_of e.low) (omega arith))

-- the windows before the l-th are done
module _ (bank : List ℕ) (table t : ℕ) (given : List ℕ) where
  pub record Worsening (windows : List ℕ) (l : ℕ) : Type 0 where
    pub within : l ≤ 16
    pub sixteen : length windows ≡ 16
    pub same : worse_from bank table t 0 given ≡ take l windows ++ worse_from bank table t l (drop l windows)

  pub worsening_none : length given ≡ 16 → Worsening given 0
  worsening_none s = record { within = omega arith; sixteen = s; same = refl }

  module _ (windows : List ℕ) (l : ℕ) (m : Worsening windows l) where
    pub worsening_more : l < 16 → (d w : ℕ) → w ≡ worse_window bank table l (get_or windows l d) t → Worsening (set windows l w) (l + 1)
    worsening_more h d w e =
        let some : l < length windows = omega (arith, m.sixteen) in
        let next : drop l windows ≡ get_or windows l d ∷ drop (l + 1) windows = rw (add-one l) (drop-cons windows l d some) in
        let done : take (l + 1) (set windows l w) ≡ take l windows ++ (w ∷ []) = rw (add-one l) (take-suc-set windows l w some) in
        record {
          within = omega arith;
          sixteen = length-set windows l w ∙ m.sixteen;
          same = m.same ∙ rw (done, drop-set-lt (l + 1) windows l w (omega arith), next, e) (sym (append_snoc (take l windows) _ _));
        }

    pub worsened : 16 ≤ l → windows ≡ worse_from bank table t 0 given
    worsened h =
        let s : length windows ≤ l = omega (arith, m.sixteen) in
        sym (m.same ∙ rw (take_all l windows s, drop_of_length-le windows s) (append-nil windows))

-- a block's commands, read straight, after n of them
module _ (bank : List ℕ) (table : ℕ) (kind : Kind) (bytes : List ℕ) (given : Extremes) where
  abbrev whole : Extremes
  whole = with_commands bank table given (straight kind bytes).commands

  pub record Gathering (e : Extremes) (n at : ℕ) : Type 0 where
    pub within : n ≤ length bytes
    pub same : whole ≡ with_commands bank table e (rest_from kind bytes n at).commands

  pub gathering_none : Gathering given 0 0
  gathering_none = record { within = omega arith; same = rw (sub-zero (length bytes)) }

  module _ (e : Extremes) (n at : ℕ) (m : Gathering e n at) where
    abbrev from_here : Straight → Extremes
    from_here s = with_commands bank table e s.commands

    pub gathered_past : length bytes ≤ n → e ≡ whole
    gathered_past h = sym (m.same ∙ ap from_here (rest_none kind bytes n at h))

    module _ (h : n < length bytes) (r : Decoded) (q : r ≡ command_at kind bytes at) where
      rest_by : (d : Decoded) → r ≡ d → whole ≡ from_here (straight_by at (λ next. rest_from kind bytes (n + 1) next) d)
      rest_by d f = m.same ∙ ap from_here (rest_is kind bytes n at h d (sym q ∙ f))

      pub gathered_refused : (refusal : Refusal) (offset : ℕ) → r ≡ Err (refusal, offset) → e ≡ whole
      gathered_refused refusal offset f = sym (rest_by _ f)

      module _ (c : Command) (next : ℕ) (f : r ≡ Ok (c, next)) where
        pub gathered_end : is_end c ≡ true → e ≡ whole
        gathered_end t = sym (rest_by _ f ∙ rw t)

        pub gathering_more : is_end c ≡ false → (x : Extremes) → x ≡ with_command bank table e c → Gathering x (n + 1) next
        gathering_more t x g = record { within = omega arith; same = rest_by _ f ∙ rw (t, g) }

-- the blocks of a channel, after n words
module _ (bank8 banka : List ℕ) (table : ℕ) (kind : Kind) (fuel : ℕ) (whole : Extremes) where
  abbrev bank : List ℕ
  bank = banks bank8 banka

  pub record Walking (e : Extremes) (spot : Spot) (marks : List Bool) (n : ℕ) : Type 0 where
    pub within : n ≤ fuel
    pub marked : length marks ≡ addresses
    pub same : whole ≡ with_named bank8 banka table kind e (named_from bank (fuel - n) spot marks n)

  module _ (e : Extremes) (spot : Spot) (marks : List Bool) (n : ℕ) (m : Walking e spot marks n) where
    abbrev onward : List Named → Extremes
    onward names = with_named bank8 banka table kind e names

    pub walked_past : fuel ≤ n → e ≡ whole
    walked_past h = sym (m.same ∙ ap onward (names_none bank fuel spot marks n h))

    module _ (h : n < fuel) (word : Word) (after : List Bool) (q : (word ≡ word_at bank spot marks) × (after ≡ marks_at bank spot marks)) where
      word_by_lem : (x : Word) → word ≡ x → whole ≡ onward (named_by n (λ next. named_from bank (fuel - (n + 1)) next after (n + 1)) x)
      word_by_lem x f = m.same ∙ ap onward (names_step bank fuel spot marks n word after q h x f)

      marked_still : length after ≡ addresses
      marked_still = still_marked bank fuel spot marks n word after q addresses m.marked

      pub walked_over : (word ≡ Done) ⊎ (word ≡ Bad) → e ≡ whole
      walked_over (inl f) = sym (word_by_lem _ f)
      walked_over (inr f) = sym (word_by_lem _ f)

      pub walking_goto : (next : Spot) → word ≡ Goto next → (x : Extremes) → x ≡ e → (there : Spot) → there ≡ next → Walking x there after (n + 1)
      walking_goto next f x g there t = record { within = omega arith; marked = marked_still; same = word_by_lem _ f ∙ rw (g, t) }

      pub walking_block : (address : ℕ) (next : Spot) → word ≡ Block address next → (x : Extremes) → x ≡ with_block bank8 banka table kind address e →
          (there : Spot) → there ≡ next → Walking x there after (n + 1)
      walking_block address next f x g there t = record { within = omega arith; marked = marked_still; same = word_by_lem _ f ∙ rw (g, t) }

-- the channels, after i of them
module _ (bank8 banka : List ℕ) (table : ℕ) (given : Extremes) (voices : List (Option Voice)) where
  pub record Visiting (e : Extremes) (i : ℕ) : Type 0 where
    pub within : i ≤ 4
    pub four : length voices ≡ 4
    pub same : with_voices bank8 banka table given voices ≡ with_voices bank8 banka table e (drop i voices)

  module _ (e : Extremes) (i : ℕ) (m : Visiting e i) where
    module _ (h : i < 4) (d : Option Voice) (x : Extremes) where
      pub visiting_used : (v : Voice) → get_or voices i d ≡ Some v → x ≡ with_channel bank8 banka table v.kind v.list e → Visiting x (i + 1)
      unfolding with_voices
      visiting_used v u q = record { within = omega arith; four = m.four; same = m.same ∙ rw (drop_next voices i d m.four h, u, q) }

      pub visiting_unused : get_or voices i d ≡ None → x ≡ e → Visiting x (i + 1)
      unfolding with_voices
      visiting_unused u q = record { within = omega arith; four = m.four; same = m.same ∙ rw (drop_next voices i d m.four h, u, q) }

    pub visited : 4 ≤ i → e ≡ with_voices bank8 banka table given voices
    unfolding with_voices
    visited h =
        let s : length voices ≤ i = omega (arith, m.four) in
        sym (m.same ∙ rw (drop_of_length-le voices s))
