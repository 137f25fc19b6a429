-- Looked for in order, the first fault is the least by its key, if it is so of each command.
use Prim.Native.Nat.{ℕ, zero, suc, ◌+◌, ◌≤◌}
use mathlib.Core.Bool.{Bool, true, false}
use mathlib.Core.List.{List, [], ◌∷◌}
use mathlib.Core.Path.{◌≡◌, refl, sym, ◌∙◌}
use native.Mathlib.Omega.{arith}
use lib.ListN.{length}
use Rattle.std.specs.Prelude.{Option, Some, None, Ok, Err}
use Rattle.engine_base.proofs.Picks.{by-test}
use Rattle.engine_base.specs.declared.refusal.Refusal.{Refusal}
use Rattle.mother_format.specs.Bank.{banks, block_of}
use Rattle.mother_format.specs.Command.{command_at, bytes_of}
use Rattle.mother_format.specs.Channel.{Source, block_source}
use Rattle.mother_format.specs.Straight.{Placed, Straight, is_end, straight_by, straight_from, straight}
use Rattle.mother_format.proofs.command.Laws.{stands}
use Rattle.mother_format.specs.declared.bank.Places.{Places}
use Rattle.mother_format.specs.declared.command.Kind.{Kind}
use Rattle.mother_format.specs.declared.command.Command.{Command}
use Rattle.mother_format.specs.Command.{Decoded}
use Rattle.mother_format.specs.declared.channel.Setting.{Setting}
use Rattle.mother_format.specs.declared.header.Voice.{Voice}
use Rattle.mother_format.specs.Straight.{Finish}
use Rattle.mother_check.specs.Walk.{Named, block, bad, word_at, marks_at, named_by, named_from, first_spot, unmarked, most_words, named}
use Rattle.mother_check.specs.Reading.{passed}
use Rattle.mother_check.specs.Faults.{site_of, command_faults, end_fault, read_faults, entering, block_faults, sized_after, named_faults, channel_faults, voices_faults, first_of}
use Rattle.mother_check.specs.First.{first_tried, read_first, block_first, named_first, channel_first, voice_first, voices_first}
use Rattle.mother_check.proofs.Member.{In, here, there, none_in}
use Rattle.mother_check.proofs.first.Order.{later_channel, later_place, later_at, then_first_is, each_of}
use Rattle.mother_check.proofs.first.Offsets.{From, command_stands, end_clean}
use Rattle.mother_check.specs.declared.walk.Spot.{Spot}
use Rattle.mother_check.specs.declared.walk.Word.{Word}
use Rattle.mother_check.specs.declared.reading.Progress.{Progress}
use Rattle.mother_check.specs.declared.settings.Extremes.{Extremes}
use Rattle.mother_check.specs.declared.faults.Site.{Site}
use Rattle.mother_check.specs.declared.faults.Fault.{Fault}

-- what straight reading reads from an offset on
data Reads (kind : Kind) (bytes : List ℕ) : ℕ → List Placed → Finish → Type 0 where
  stops : {at offset : ℕ} {refusal : Refusal} → Reads kind bytes at [] (Err (refusal, offset))
  ends : {at next : ℕ} {c : Command} → command_at kind bytes at ≡ Ok (c, next) → is_end c ≡ true → Reads kind bytes at [] (Ok at)
  goes : {at next : ℕ} {c : Placed} {cs : List Placed} {finish : Finish} → command_at kind bytes at ≡ Ok (c.command, next) →
      next ≡ at + length (bytes_of c.command) → Reads kind bytes next cs finish → Reads kind bytes at (c ∷ cs) finish

module _ (kind : Kind) (bytes : List ℕ) where
  abbrev ReadsFrom : ℕ → Straight → Type 0
  ReadsFrom at s = Reads kind bytes at s.commands s.finish

  reads_from : (more at : ℕ) → ReadsFrom at (straight_from kind bytes more at)
  unfolding straight_from
  reads_from zero at = stops
  reads_from (suc more) at = by (reads_from more) (command_at kind bytes at) refl
    where
      by : ((next : ℕ) → ReadsFrom next (straight_from kind bytes more next)) →
          (d : Decoded) → command_at kind bytes at ≡ d → ReadsFrom at (straight_by at (λ next. straight_from kind bytes more next) d)
      by rest (Ok (c, next)) e = by-test (ReadsFrom at) (is_end c) (λ i. ends e i) (λ _. goes e (stands kind bytes at e).0 (rest next))
      by rest (Err (refusal, offset)) e = stops

module _ (source : Source) (site : Site) (ss : List Setting) where
  command_from : (at : ℕ) (sized : Bool) (f : Fault) → In f (command_faults source site ss sized at) → From site at f
  command_from at sized f m = (command_stands source site at ss sized f m).from

  end_from_lem : (at : ℕ) (noted : Bool) (f : Fault) → In f (end_fault site noted at) → From site at f
  end_from_lem at false f here = record { channel = refl; place = refl; offset = omega arith }
  end_from_lem at false f (there x4) = elim x4 [ ]
  end_from_lem at true f x'' = elim x'' [ ]

  read_from_lem : (p : Progress) {at : ℕ} {cs : List Placed} {finish : Finish} → Reads source.kind source.bytes at cs finish →
      (f : Fault) → In f (read_faults source site ss p at cs finish) → From site at f
  unfolding read_faults
  read_from_lem p (stops {at}) = each_of (From site at) (command_faults source site ss p.sized at) [] (command_from at p.sized) (λ f m. none_in m)
  read_from_lem p (ends {at} e i) =
      each_of (From site at) (command_faults source site ss p.sized at) (end_fault site p.noted at) (command_from at p.sized) (end_from_lem at p.noted)
  read_from_lem p (goes {at} {next} {c} {cs} {finish} e s r) =
      each_of (From site at) (command_faults source site ss p.sized at)
      (read_faults source site ss (passed p c.command) (at + length (bytes_of c.command)) cs finish) (command_from at p.sized) λ f m.
      let g = read_from_lem (passed p c.command) r f (rw s m) in
      record { channel = g.channel; place = g.place; offset = omega arith }

  module _ (e : Extremes) (given : (sized : Bool) (at : ℕ) → first_tried source site e sized at ≡ first_of (command_faults source site ss sized at)) where
    read_in_order : (p : Progress) {at : ℕ} {cs : List Placed} {finish : Finish} → Reads source.kind source.bytes at cs finish →
        read_first source site e p at cs finish ≡ first_of (read_faults source site ss p at cs finish)
    unfolding read_first read_faults first_of
    read_in_order p (stops {at}) = then_first_is (command_faults source site ss p.sized at) [] _ _ (given p.sized at) refl (λ f g m n. none_in n)
    read_in_order p (ends {at} q i) = rw (given p.sized at, end_clean source site at ss p.sized q i)
    read_in_order p (goes {at} {next} {c} {cs} {finish} q s r) =
        then_first_is (command_faults source site ss p.sized at) (read_faults source site ss (passed p c.command) (at + length (bytes_of c.command)) cs finish) _ _
        (given p.sized at) (rw (← s) (read_in_order (passed p c.command) r)) λ f g m n.
        let x = command_stands source site at ss p.sized f m in
        let (before, more) = x.before q in
        let y = read_from_lem (passed p c.command) r g (rw s n) in
        later_at f g (x.from.channel ∙ sym y.channel) (x.from.place ∙ sym y.place) (omega arith)

-- what a playlist names, place after place; 20 comes last
data Rising : ℕ → List Named → Type 0 where
  none : {n : ℕ} → Rising n []
  last : (n place : ℕ) → n ≤ place → Rising n (bad place ∷ [])
  next : {address : ℕ} {names : List Named} (n place : ℕ) → n ≤ place → Rising (place + 1) names → Rising n (block place address ∷ names)

sooner_rising : {n : ℕ} {names : List Named} → Rising (n + 1) names → Rising n names
sooner_rising none = none
sooner_rising {n} (last _ place h) = last n place (omega arith)
sooner_rising {n} (next _ place h r) = next n place (omega arith) r

rising : (bank : List ℕ) (more : ℕ) (spot : Spot) (marks : List Bool) (n : ℕ) → Rising n (named_from bank more spot marks n)
unfolding named_from
rising bank zero spot marks n = none
rising bank (suc more) spot marks n = by (λ following. rising bank more following (marks_at bank spot marks) (n + 1)) (word_at bank spot marks)
  where
    on : Spot → List Named
    on following = named_from bank more following (marks_at bank spot marks) (n + 1)

    by : ((following : Spot) → Rising (n + 1) (on following)) → (word : Word) → Rising n (named_by n on word)
    by rest Word.Done = none
    by rest Word.Bad = last n n (omega arith)
    by rest (Word.Goto following) = sooner_rising (rest following)
    by rest (Word.Block address following) = next n n (omega arith) (rest following)

named_rising : (bank : List ℕ) (list : ℕ) → Rising 0 (named bank list)
unfolding named
named_rising bank list = rising bank most_words (first_spot list) unmarked 0

module _ (bank8 banka : List ℕ) (places : Places) (e : Extremes) (ss : List Setting) where
  block_reads : (kind : Kind) (start : ℕ) → ReadsFrom kind (block_of bank8 banka start) 0 (straight kind (block_of bank8 banka start))
  block_reads kind start = reads_from kind (block_of bank8 banka start) (length (block_of bank8 banka start)) 0

  block_from : (kind : Kind) (start : ℕ) (site : Site) (sized : Bool) (f : Fault) → In f (block_faults bank8 banka places kind start site ss sized) →
      From site 0 f
  unfolding block_faults
  block_from kind start site sized = read_from_lem (block_source bank8 banka places kind start) site ss (entering sized) (block_reads kind start)

  record PlacedFrom (i n : ℕ) (f : Fault) : Type 0 where
    pub channel : f.channel ≡ i
    pub from : n ≤ f.place

  named_from_lem : (kind : Kind) (i : ℕ) (sized : Bool) {n : ℕ} {names : List Named} → Rising n names →
      (f : Fault) → In f (named_faults bank8 banka places kind i ss sized names) → PlacedFrom i n f
  unfolding named_faults
  named_from_lem kind i sized none f m = none_in m
  named_from_lem kind i sized (last n place h) f here = record { channel = refl; from = h }
  named_from_lem kind i sized (last n place h) f (there m) = none_in m
  named_from_lem kind i sized (next {address} {names} n place h r) f m =
      each_of (PlacedFrom i n) (block_faults bank8 banka places kind address (site_of i place) ss sized)
      (named_faults bank8 banka places kind i ss (sized_after bank8 banka kind address sized) names)
      (λ f m. let g = block_from kind address (site_of i place) sized f m in record { channel = g.channel; from = omega arith })
      (λ f m. let g = named_from_lem kind i (sized_after bank8 banka kind address sized) r f m in record { channel = g.channel; from = omega arith })
      f m

  voice_from : (i : ℕ) (v : Option Voice) (f : Fault) → In f (channel_faults bank8 banka places i ss v) → f.channel ≡ i
  unfolding channel_faults
  voice_from i None f m = none_in m
  voice_from i (Some v) f m = (named_from_lem v.kind i false (named_rising (banks bank8 banka) v.list) f m).channel

  voices_from : (i : ℕ) (vs : List (Option Voice)) (f : Fault) → In f (voices_faults bank8 banka places i ss vs) → i ≤ f.channel
  unfolding voices_faults
  voices_from i (v ∷ vs) f m =
      each_of (λ f. i ≤ f.channel) (channel_faults bank8 banka places i ss v) (voices_faults bank8 banka places (i + 1) ss vs)
      (λ f m. omega (arith, voice_from i v f m)) (λ f m. omega (arith, voices_from (i + 1) vs f m)) f m
  voices_from i [] f m = elim m [ ]

  module _ (given : (kind : Kind) (start : ℕ) (site : Site) (sized : Bool) (at : ℕ) →
      first_tried (block_source bank8 banka places kind start) site e sized at ≡ first_of (command_faults (block_source bank8 banka places kind start) site ss sized at)) where
    block_in_order : (kind : Kind) (start : ℕ) (site : Site) (sized : Bool) →
        block_first bank8 banka places kind start site e sized ≡ first_of (block_faults bank8 banka places kind start site ss sized)
    unfolding block_first block_faults
    block_in_order kind start site sized =
        read_in_order (block_source bank8 banka places kind start) site ss e (given kind start site) (entering sized) (block_reads kind start)

    named_in_order : (kind : Kind) (i : ℕ) (sized : Bool) {n : ℕ} {names : List Named} → Rising n names →
        named_first bank8 banka places kind i e sized names ≡ first_of (named_faults bank8 banka places kind i ss sized names)
    unfolding named_first named_faults first_of
    named_in_order kind i sized none = refl
    named_in_order kind i sized (last n place h) = refl
    named_in_order kind i sized (next {address} {names} n place h r) =
        then_first_is (block_faults bank8 banka places kind address (site_of i place) ss sized)
        (named_faults bank8 banka places kind i ss (sized_after bank8 banka kind address sized) names) _ _
        (block_in_order kind address (site_of i place) sized) (named_in_order kind i (sized_after bank8 banka kind address sized) r) λ f g m n.
        let x = block_from kind address (site_of i place) sized f m in
        let y = named_from_lem kind i (sized_after bank8 banka kind address sized) r g n in
        later_place f g (x.channel ∙ sym y.channel) (omega arith)

    voice_in_order : (i : ℕ) (v : Option Voice) → voice_first bank8 banka places i e v ≡ first_of (channel_faults bank8 banka places i ss v)
    unfolding channel_first channel_faults first_of
    voice_in_order i None = refl
    voice_in_order i (Some v) = named_in_order v.kind i false (named_rising (banks bank8 banka) v.list)

    pub first_in_order : (i : ℕ) (vs : List (Option Voice)) → voices_first bank8 banka places i e vs ≡ first_of (voices_faults bank8 banka places i ss vs)
    unfolding voices_first voices_faults first_of
    first_in_order i [] = refl
    first_in_order i (v ∷ vs) =
        then_first_is (channel_faults bank8 banka places i ss v) (voices_faults bank8 banka places (i + 1) ss vs) _ _
        (voice_in_order i v) (first_in_order (i + 1) vs) λ f g m n.
        let x = voice_from i v f m in
        let y = voices_from (i + 1) vs g n in
        later_channel f g (omega arith)
