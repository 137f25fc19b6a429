-- The extremes of a track span its transposes and windows, and its transposes are bytes.
use Prim.Native.Nat.{ℕ, zero, suc, ◌+◌, ◌-◌, ◌≤◌, ◌<◌}
use mathlib.Core.Bool.{Bool, true, false}
use mathlib.Core.List.{List, [], ◌∷◌, ◌++◌, append-nil, append_assoc}
use mathlib.Core.Path.{◌≡◌, refl, sym, ap, subst, ◌∙◌}
use native.Mathlib.Nat.{le_refl, le_of_suc-le-suc, zero-add, add-zero}
use native.Mathlib.Omega.{arith}
use borrow.Author.Tests.{ltb-true, ltb-false, le-ltb}
use lib.Dec.{leb, ltb}
use lib.ListN.{length, get_or, take, drop, replicate, get_or-replicate, length-replicate}
use lib.Seq.{get_or-drop}
use Rattle.std.specs.Prelude.{Option, Some, None, Result, Ok, Err}
use Rattle.engine_base.specs.Pick.{pick}
use Rattle.engine_base.specs.Refusal.{number_of}
use Rattle.engine_base.specs.declared.refusal.Refusal.{Refusal}
use Rattle.engine_base.specs.declared.refusal.Refusal.TheVariants.{InvalidNote}
use Rattle.engine_base.specs.Address.{offset_of}
use Rattle.engine_base.specs.Bytes.{AllBytes}
use Rattle.engine_base.proofs.Picks.{by-test, false_true}
use Rattle.mother_format.specs.Bank.{banks, block_limit, block_of}
use Rattle.mother_format.specs.Channel.{length_fault}
use Rattle.mother_format.specs.Transpose.{is_odd}
use Rattle.mother_format.specs.Header.{track_of, open_track}
use Rattle.mother_format.specs.Command.{is_note, rule_of, needed, note_after, timbre_after, command_by, command_at}
use Rattle.mother_format.specs.Straight.{Placed, straight}
use Rattle.mother_format.proofs.straight.Within.{AllStand, straight_within}
use Rattle.mother_format.specs.declared.bank.Places.{Places}
use Rattle.mother_format.specs.declared.command.Kind.{Kind}
use Rattle.mother_format.specs.declared.command.Rule.{Rule}
use Rattle.mother_format.specs.declared.command.Command.{Command}
use Rattle.mother_format.specs.Command.{Decoded}
use Rattle.mother_format.specs.declared.header.Voice.{Voice}
use Rattle.mother_format.specs.declared.header.Track.{Track}
use Rattle.mother_check.specs.Walk.{Named, block, bad, named}
use Rattle.mother_check.specs.Settings.{transpose_of, window_of, in_commands, in_blocks, in_voice, in_voices, transposes_of, windows_of}
use Rattle.mother_check.specs.Extremes.{rank_of, with_transpose, is_sooner, worse_window, worse_from, with_window, with_command, with_commands, with_block, with_named, with_channel, with_voice, with_voices, extremes_of}
use Rattle.mother_check.proofs.Opened.{opened_is}
use Rattle.mother_check.proofs.Member.{In, here, there, in_left, in_right, Either, left, right, in_either}
use Rattle.mother_check.proofs.settings.Spans.{Spans}
use Rattle.mother_check.specs.declared.settings.Extremes.{Extremes}

-- what a length's tests answer
abbrev Tested : Type 0
Tested = Result (Unit {0}) Refusal

never_itself : (a : Tested) → is_sooner a a ≡ false
never_itself (Ok none) = refl
never_itself (Err a) = le-ltb (number_of a) (number_of a) (le_refl _)

later_than_sooner : (a b t : Tested) → is_sooner a b ≡ false → is_sooner t b ≡ true → is_sooner a t ≡ false
later_than_sooner (Ok none) b t l s = refl
later_than_sooner (Err a) (Ok none) t l s = absurd (false_true (sym l))
later_than_sooner (Err a) (Err b) (Ok none) l s = absurd (false_true s)
later_than_sooner (Err a) (Err b) (Err t) l s =
    let near = ltb-false (number_of a) (number_of b) l in
    let less = ltb-true (number_of t) (number_of b) s in
    le-ltb (number_of a) (number_of t) (omega arith)

one_is : {A : Type 0} {x y : A} → In x (y ∷ []) → x ≡ y
one_is here = refl
one_is {A = A} {y = y} (there x4) = elim x4 [ ]

module _ (bank : List ℕ) (table : ℕ) where
  -- with a window for each index, as the array has it
  record Spanning (ms ws : List ℕ) (e : Extremes) : Type 0 where
    sixteen : length e.windows ≡ 16
    spans : Spans bank table ms ws e

  nothing_more : {ms ws : List ℕ} {e : Extremes} → Spanning ms ws e → Spanning (ms ++ []) (ws ++ []) e
  nothing_more {ms} {ws} s = rw (append-nil ms, append-nil ws) s

  both_more : (ms xs ys ws us vs : List ℕ) {e : Extremes} → Spanning ((ms ++ xs) ++ ys) ((ws ++ us) ++ vs) e → Spanning (ms ++ (xs ++ ys)) (ws ++ (us ++ vs)) e
  both_more ms xs ys ws us vs s = rw (← append_assoc ms xs ys, ← append_assoc ws us vs) s

  -- a transpose that is not odd
  module _ (ms ws : List ℕ) (e : Extremes) (s : Spanning ms ws e) (m : ℕ) where
    abbrev lower : ℕ
    lower = pick (ltb (rank_of m) (rank_of e.low)) m e.low

    abbrev higher : ℕ
    higher = pick (ltb (rank_of e.high) (rank_of m)) m e.high

    lower_least : (rank_of lower ≤ rank_of m) × (rank_of lower ≤ rank_of e.low)
    lower_least =
        by-test (λ x. (rank_of x ≤ rank_of m) × (rank_of x ≤ rank_of e.low)) (ltb (rank_of m) (rank_of e.low))
        (λ t. let less = ltb-true (rank_of m) (rank_of e.low) t in (le_refl _, omega arith))
        (λ f. (ltb-false (rank_of m) (rank_of e.low) f, le_refl _))

    higher_most : (rank_of m ≤ rank_of higher) × (rank_of e.high ≤ rank_of higher)
    higher_most =
        by-test (λ x. (rank_of m ≤ rank_of x) × (rank_of e.high ≤ rank_of x)) (ltb (rank_of e.high) (rank_of m))
        (λ t. let less = ltb-true (rank_of e.high) (rank_of m) t in (le_refl _, omega arith))
        (λ f. (ltb-false (rank_of e.high) (rank_of m) f, le_refl _))

    module _ (k : ℕ) where
      under : Either k ms (m ∷ []) → rank_of lower ≤ rank_of k
      under (left i) = let (_, least) = lower_least in omega (arith, s.spans.lowest k i)
      under (right i) = rw (one_is i) lower_least.0

      over : Either k ms (m ∷ []) → rank_of k ≤ rank_of higher
      over (left i) = let (_, most) = higher_most in omega (arith, s.spans.highest k i)
      over (right i) = rw (one_is i) higher_most.0

    even_more : Spanning (ms ++ (m ∷ [])) ws (record { low = lower; high = higher; windows = e.windows })
    even_more = record {
      sixteen = s.sixteen;
      spans = record {
        low_in = by-test (λ x. In x (ms ++ (m ∷ []))) (ltb (rank_of m) (rank_of e.low)) (λ _. in_right ms here) (λ _. in_left _ s.spans.low_in);
        high_in = by-test (λ x. In x (ms ++ (m ∷ []))) (ltb (rank_of e.high) (rank_of m)) (λ _. in_right ms here) (λ _. in_left _ s.spans.high_in);
        lowest = λ k i. under k (in_either ms i);
        highest = λ k i. over k (in_either ms i);
        window_in = s.spans.window_in;
        worst = s.spans.worst;
      };
    }

    transpose_more : Spanning (ms ++ transpose_of (Command.Transpose m)) (ws ++ []) (with_transpose e m)
    unfolding with_transpose
    transpose_more = by (is_odd m) refl
      where
        by : (b : Bool) → is_odd m ≡ b →
            Spanning (ms ++ pick b [] (m ∷ [])) (ws ++ []) (pick b e (record { low = lower; high = higher; windows = e.windows }))
        by true q = nothing_more s
        by false q = rw (append-nil ws) even_more

  -- a window
  worse_length : (t l : ℕ) (ws : List ℕ) → length (worse_from bank table t l ws) ≡ length ws
  worse_length t l [] = refl
  worse_length t l (w ∷ ws) = ap suc (worse_length t (l + 1) ws)

  worse_at : (t l i : ℕ) (ws : List ℕ) → i < length ws → get_or (worse_from bank table t l ws) i 0 ≡ worse_window bank table (l + i) (get_or ws i 0) t
  worse_at t l zero [] h = absurd (omega arith)
  worse_at t l (suc i) [] h = absurd (omega arith)
  worse_at t l zero (w ∷ ws) h = rw (add-zero l)
  worse_at t l (suc i) (w ∷ ws) h =
      let e : l + suc i ≡ l + 1 + i = omega arith in
      rw e (worse_at t (l + 1) i ws (le_of_suc-le-suc h))

  module _ (ms ws : List ℕ) (e : Extremes) (s : Spanning ms ws e) (t l : ℕ) (h : l < 16) where
    abbrev fault : ℕ → Tested
    fault w = length_fault bank table w l

    abbrev window : ℕ
    window = get_or e.windows l 0

    worse_is : get_or (with_window bank table e t).windows l 0 ≡ pick (is_sooner (fault t) (fault window)) t window
    unfolding with_window worse_window
    worse_is =
        let some : l < length e.windows = omega (arith, s.sixteen) in
        worse_at t 0 l e.windows some ∙ rw (zero-add l)

    worse_in : In (pick (is_sooner (fault t) (fault window)) t window) (ws ++ (t ∷ []))
    worse_in = by-test (λ x. In x (ws ++ (t ∷ []))) (is_sooner (fault t) (fault window)) (λ _. in_right ws here) (λ _. in_left _ (s.spans.window_in l h))

    worse_worst : (w : ℕ) → Either w ws (t ∷ []) → is_sooner (fault w) (fault (pick (is_sooner (fault t) (fault window)) t window)) ≡ false
    worse_worst w (left i) =
        by-test (λ x. is_sooner (fault w) (fault x) ≡ false) (is_sooner (fault t) (fault window))
        (λ q. later_than_sooner (fault w) (fault window) (fault t) (s.spans.worst l h w i) q)
        (λ _. s.spans.worst l h w i)
    worse_worst w (right i) =
        rw (one_is i)
        (by-test (λ x. is_sooner (fault t) (fault x) ≡ false) (is_sooner (fault t) (fault window)) (λ _. never_itself (fault t)) (λ q. q))

  window_more : (ms ws : List ℕ) (e : Extremes) → Spanning ms ws e → (t : ℕ) → Spanning (ms ++ []) (ws ++ (t ∷ [])) (with_window bank table e t)
  unfolding with_window
  window_more ms ws e s t =
      rw (append-nil ms)
      record {
        sixteen = worse_length t 0 e.windows ∙ s.sixteen;
        spans = record {
          low_in = s.spans.low_in;
          high_in = s.spans.high_in;
          lowest = s.spans.lowest;
          highest = s.spans.highest;
          window_in = λ l h. rw (worse_is ms ws e s t l h) (worse_in ms ws e s t l h);
          worst = λ l h w i. rw (worse_is ms ws e s t l h) (worse_worst ms ws e s t l h w (in_either ws i));
        };
      }

  command_more : (ms ws : List ℕ) (e : Extremes) → Spanning ms ws e → (c : Command) →
      Spanning (ms ++ transpose_of c) (ws ++ window_of c) (with_command bank table e c)
  command_more ms ws e s Command.End = nothing_more s
  command_more ms ws e s (Command.Transpose m) = transpose_more ms ws e s m
  command_more ms ws e s (Command.Window t) = window_more ms ws e s t
  command_more ms ws e s Command.EndLoop = nothing_more s
  command_more ms ws e s (Command.Length l b) = nothing_more s
  command_more ms ws e s (Command.BeginLoop n) = nothing_more s
  command_more ms ws e s (Command.Timbre x c) = nothing_more s
  command_more ms ws e s (Command.Note b) = nothing_more s

  commands_more : (ms ws : List ℕ) (e : Extremes) → Spanning ms ws e → (cs : List Placed) →
      Spanning (ms ++ in_commands transpose_of cs) (ws ++ in_commands window_of cs) (with_commands bank table e cs)
  commands_more ms ws e s [] = nothing_more s
  commands_more ms ws e s (c ∷ cs) =
      both_more ms _ _ ws _ _ (commands_more (ms ++ transpose_of c.command) (ws ++ window_of c.command) (with_command bank table e c.command) (command_more ms ws e s c.command) cs)

module _ (bank8 banka : List ℕ) (table : ℕ) where
  abbrev Spanned : List ℕ → List ℕ → Extremes → Type 0
  Spanned = Spanning (banks bank8 banka) table

  blocks_more : (kind : Kind) (ms ws : List ℕ) (e : Extremes) → Spanned ms ws e → (names : List Named) →
      Spanned (ms ++ in_blocks transpose_of bank8 banka kind names) (ws ++ in_blocks window_of bank8 banka kind names) (with_named bank8 banka table kind e names)
  unfolding with_block
  blocks_more kind ms ws e s [] = nothing_more _ _ s
  blocks_more kind ms ws e s (block place address ∷ names) =
      both_more _ _ ms _ _ ws _ _
      (blocks_more kind (ms ++ in_commands transpose_of (straight kind (block_of bank8 banka address)).commands)
      (ws ++ in_commands window_of (straight kind (block_of bank8 banka address)).commands) _
      (commands_more _ _ ms ws e s (straight kind (block_of bank8 banka address)).commands) names)
  blocks_more kind ms ws e s (bad place ∷ names) = blocks_more kind ms ws e s names

  voice_more : (ms ws : List ℕ) (e : Extremes) → Spanned ms ws e → (v : Option Voice) →
      Spanned (ms ++ in_voice transpose_of bank8 banka v) (ws ++ in_voice window_of bank8 banka v) (with_voice bank8 banka table e v)
  unfolding with_channel
  voice_more ms ws e s None = nothing_more _ _ s
  voice_more ms ws e s (Some v) = blocks_more v.kind ms ws e s (named (banks bank8 banka) v.list)

  voices_more : (ms ws : List ℕ) (e : Extremes) → Spanned ms ws e → (vs : List (Option Voice)) →
      Spanned (ms ++ in_voices transpose_of bank8 banka vs) (ws ++ in_voices window_of bank8 banka vs) (with_voices bank8 banka table e vs)
  unfolding with_voices
  voices_more ms ws e s [] = nothing_more _ _ s
  voices_more ms ws e s (v ∷ vs) =
      both_more _ _ ms _ _ ws _ _ (voices_more (ms ++ in_voice transpose_of bank8 banka v) (ws ++ in_voice window_of bank8 banka v) _ (voice_more ms ws e s v) vs)

-- the header's, before any command
header_spans : (bank : List ℕ) (table m t : ℕ) → Spanning bank table (m ∷ []) (t ∷ []) (record { low = m; high = m; windows = replicate 16 t })
header_spans bank table m t = record {
  sixteen = length-replicate 16 t;
  spans = record {
    low_in = here;
    high_in = here;
    lowest = λ k i. rw (one_is i) (le_refl _);
    highest = λ k i. rw (one_is i) (le_refl _);
    window_in = λ l h. rw (get_or-replicate 16 l t 0 h) here;
    worst = λ l h w i. rw (get_or-replicate 16 l t 0 h, one_is i) (never_itself (length_fault bank table t l));
  };
}

pub extremes_span : (bank8 banka : List ℕ) (places : Places) (track : Track) →
    Spans (banks bank8 banka) places.note_lengths (transposes_of bank8 banka track) (windows_of bank8 banka track) (extremes_of bank8 banka places track)
unfolding transposes_of windows_of extremes_of
extremes_span bank8 banka places track =
    (voices_more bank8 banka places.note_lengths _ _ _
    (header_spans (banks bank8 banka) places.note_lengths track.transpose track.window)
    track.voices).spans

-- parts of bytes are bytes
take_bytes : (n : ℕ) (l : List ℕ) → AllBytes l → AllBytes (take n l)
take_bytes zero l a i = omega arith
take_bytes (suc n) [] a i = omega arith
take_bytes (suc n) (x ∷ l) a zero = a 0
take_bytes (suc n) (x ∷ l) a (suc i) = take_bytes n l (λ j. a (suc j)) i

drop_bytes : (n : ℕ) (l : List ℕ) → AllBytes l → AllBytes (drop n l)
drop_bytes n l a i = rw (get_or-drop n l i 0) (a (n + i))

join_bytes : (k l : List ℕ) → AllBytes k → AllBytes l → AllBytes (k ++ l)
join_bytes [] l a b i = b i
join_bytes (x ∷ k) l a b zero = a 0
join_bytes (x ∷ k) l a b (suc i) = join_bytes k l (λ j. a (suc j)) b i

-- each of a list is a byte
abbrev Small : List ℕ → Type 0
Small ms = (m : ℕ) → In m ms → m ≤ 255

none_small : Small []
none_small m = elim [ ]

one_small : (n : ℕ) → n ≤ 255 → Small (n ∷ [])
one_small n h m i = rw (one_is i) h

both_small : (ms ks : List ℕ) → Small ms → Small ks → Small (ms ++ ks)
both_small ms ks a b m i = by (in_either ms i)
  where
    by : Either m ms ks → m ≤ 255
    by (left j) = a m j
    by (right j) = b m j

-- a transpose is a byte of its block
abbrev Reads : Decoded → Type 0
Reads (Ok (c, next)) = Small (transpose_of c)
Reads (Err (refusal, offset)) = Unit {0}

module _ (kind : Kind) (bytes : List ℕ) (a : AllBytes bytes) where
  needed_reads : (at : ℕ) (go : ℕ → Decoded) → Reads (go (get_or bytes at 0)) → Reads (needed bytes at go)
  needed_reads at go r = by-test Reads (leb (length bytes) at) (λ _. tt) (λ _. r)

  rule_reads : (at : ℕ) (rule : Result Rule Refusal) → Reads (command_by kind bytes at rule)
  unfolding note_after timbre_after
  rule_reads at (Ok Rule.End) = none_small
  rule_reads at (Ok Rule.Transpose) =
      needed_reads (at + 1) (λ m. Ok (Command.Transpose m, at + 1 + 1))
      (by-test Small (is_odd (get_or bytes (at + 1) 0)) (λ _. none_small) (λ _. one_small _ (a (at + 1))))
  rule_reads at (Ok Rule.Window) = needed_reads (at + 1) (λ t. Ok (Command.Window t, at + 1 + 1)) none_small
  rule_reads at (Ok Rule.EndLoop) = none_small
  rule_reads at (Ok (Rule.Length l)) =
      needed_reads (at + 1) (λ b. pick (is_note kind b) (Ok (Command.Length l b, at + 1 + 1)) (Err (InvalidNote, at + 1)))
      (by-test Reads (is_note kind (get_or bytes (at + 1) 0)) (λ _. none_small) (λ _. tt))
  rule_reads at (Ok (Rule.BeginLoop n)) = none_small
  rule_reads at (Ok Rule.Timbre) =
      needed_reads (at + 1) (λ x. needed bytes (at + 1 + 1) (λ c. Ok (Command.Timbre x c, at + 1 + 1 + 1)))
      (needed_reads (at + 1 + 1) (λ c. Ok (Command.Timbre (get_or bytes (at + 1) 0) c, at + 1 + 1 + 1)) none_small)
  rule_reads at (Ok Rule.Note) = none_small
  rule_reads at (Err refusal) = tt

  command_reads : (at : ℕ) → Reads (command_at kind bytes at)
  unfolding command_at
  command_reads at = needed_reads at (λ b. command_by kind bytes at (rule_of kind b)) (rule_reads at (rule_of kind (get_or bytes at 0)))

  commands_small : (cs : List Placed) → AllStand kind bytes cs → Small (in_commands transpose_of cs)
  commands_small [] s = none_small
  commands_small (c ∷ cs) ((_, found), s) =
      both_small (transpose_of c.command) (in_commands transpose_of cs) (subst Reads found (command_reads c.at)) (commands_small cs s)

  straight_small : Small (in_commands transpose_of (straight kind bytes).commands)
  straight_small = commands_small (straight kind bytes).commands (straight_within kind bytes).commands

module _ (bank8 banka : List ℕ) (a : AllBytes bank8) (b : AllBytes banka) where
  block_bytes : (address : ℕ) → AllBytes (block_of bank8 banka address)
  unfolding block_of
  block_bytes address =
      by-test AllBytes (ltb (offset_of address) (length bank8))
      (λ _. take_bytes block_limit (drop (offset_of address) bank8) (drop_bytes (offset_of address) bank8 a))
      (λ _. take_bytes block_limit (drop (offset_of address - length bank8) banka) (drop_bytes (offset_of address - length bank8) banka b))

  blocks_small : (kind : Kind) (names : List Named) → Small (in_blocks transpose_of bank8 banka kind names)
  blocks_small kind [] = none_small
  blocks_small kind (block place address ∷ names) =
      both_small (in_commands transpose_of (straight kind (block_of bank8 banka address)).commands) _
      (straight_small kind (block_of bank8 banka address) (block_bytes address))
      (blocks_small kind names)
  blocks_small kind (bad place ∷ names) = blocks_small kind names

  voice_small : (v : Option Voice) → Small (in_voice transpose_of bank8 banka v)
  voice_small None = none_small
  voice_small (Some v) = blocks_small v.kind (named (banks bank8 banka) v.list)

  voices_small : (vs : List (Option Voice)) → Small (in_voices transpose_of bank8 banka vs)
  voices_small [] = none_small
  voices_small (v ∷ vs) = both_small (in_voice transpose_of bank8 banka v) _ (voice_small v) (voices_small vs)

  header_byte : (places : Places) (number : ℕ) (track : Track) → open_track bank8 banka places number ≡ Ok track → track.transpose ≤ 255
  unfolding track_of
  header_byte places number track e =
      subst (λ (t : Track). t.transpose ≤ 255) (opened_is bank8 banka places number track e).1 (join_bytes bank8 banka a b _)

pub transposes_bytes : (bank8 banka : List ℕ) (places : Places) (number : ℕ) (track : Track) → AllBytes bank8 → AllBytes banka →
    open_track bank8 banka places number ≡ Ok track → (m : ℕ) → In m (transposes_of bank8 banka track) → m ≤ 255
unfolding transposes_of
transposes_bytes bank8 banka places number track a b e =
    both_small (track.transpose ∷ []) _
    (one_small _ (header_byte bank8 banka a b places number track e))
    (voices_small bank8 banka a b track.voices)
