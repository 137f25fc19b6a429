-- What it says of a track that it has no fault: of each block that its used channels name, and of what is set in them.
use Prim.Native.Nat.{ℕ, ◌+◌}
use mathlib.Core.Bool.{Bool, false}
use mathlib.Core.List.{List, [], ◌∷◌}
use mathlib.Core.Path.{◌≡◌}
use Rattle.std.specs.Prelude.{Option, Some, None}
use Rattle.mother_format.specs.Bank.{banks, block_of}
use Rattle.mother_format.specs.Transpose.{is_odd}
use Rattle.mother_format.specs.Straight.{straight}
use Rattle.mother_format.specs.declared.bank.Places.{Places}
use Rattle.mother_format.specs.declared.command.Kind.{Kind}
use Rattle.mother_format.specs.declared.command.Command.{Command}
use Rattle.mother_format.specs.declared.channel.Setting.{Setting}
use Rattle.mother_format.specs.declared.header.Voice.{Voice}
use Rattle.mother_format.specs.declared.header.Track.{Track}
use Rattle.mother_check.specs.Walk.{Named, block, bad, named}
use Rattle.mother_check.specs.Settings.{transpose_of, window_of, in_commands, in_blocks, in_voice, in_voices, transposes_of, windows_of, settings_of}
use Rattle.mother_check.specs.Faults.{site_of, block_faults, sized_after, named_faults, channel_faults, voices_faults, track_faults}
use Rattle.mother_check.proofs.Member.{In, here, there, in_left, in_right, in_one, none_in, cons_none, none_both}
use Rattle.mother_check.proofs.clean.Laws.{all_even}
use Rattle.mother_check.specs.declared.faults.Site.{Site}

module _ (bank8 banka : List ℕ) (places : Places) (kind : Kind) (ss : List Setting) (address : ℕ) where
  -- wherever it is named
  pub record CleanBlock : Type 0 where
    pub site : Site
    pub sized : Bool
    pub none : block_faults bank8 banka places kind address site ss sized ≡ []

  -- before which no length stands
  pub record CleanFirst : Type 0 where
    pub site : Site
    pub none : block_faults bank8 banka places kind address site ss false ≡ []

module _ (bank8 banka : List ℕ) (places : Places) (kind : Kind) (i : ℕ) (ss : List Setting) where
  names_good : (sized : Bool) (names : List Named) {place : ℕ} → named_faults bank8 banka places kind i ss sized names ≡ [] →
      In (bad place) names → ⊥
  unfolding named_faults
  names_good sized (_ ∷ names) e here = cons_none e
  names_good sized (block p address ∷ names) e (there m) =
      names_good (sized_after bank8 banka kind address sized) names
      (none_both (block_faults bank8 banka places kind address (site_of i p) ss sized) _ e).1 m
  names_good sized (bad p ∷ names) e (there m) = cons_none e
  names_good sized [] {place = place} e x'' = elim x'' [ ]

  names_clean : (sized : Bool) (names : List Named) {place address : ℕ} → named_faults bank8 banka places kind i ss sized names ≡ [] →
      In (block place address) names → CleanBlock bank8 banka places kind ss address
  unfolding named_faults
  names_clean sized (_ ∷ names) {place} {address} e here = record {
    site = site_of i place;
    sized = sized;
    none = (none_both (block_faults bank8 banka places kind address (site_of i place) ss sized) _ e).0;
  }
  names_clean sized (block p a ∷ names) e (there m) =
      names_clean (sized_after bank8 banka kind a sized) names
      (none_both (block_faults bank8 banka places kind a (site_of i p) ss sized) _ e).1 m
  names_clean sized (bad p ∷ names) e (there m) = absurd (cons_none e)
  names_clean sized [] e m = elim m [ ]

  names_first : (names rest : List Named) {place address : ℕ} → named_faults bank8 banka places kind i ss false names ≡ [] →
      names ≡ block place address ∷ rest → CleanFirst bank8 banka places kind ss address
  unfolding named_faults
  names_first names rest {place} {address} e f =
      let g : named_faults bank8 banka places kind i ss false (block place address ∷ rest) ≡ [] = rw f at e in
      record { site = site_of i place; none = (none_both (block_faults bank8 banka places kind address (site_of i place) ss false) _ g).0 }

module _ (bank8 banka : List ℕ) (places : Places) (ss : List Setting) where
  record CleanNames (v : Voice) : Type 0 where
    i : ℕ
    none : named_faults bank8 banka places v.kind i ss false (named (banks bank8 banka) v.list) ≡ []

  channel_clean : (i : ℕ) (v : Voice) → channel_faults bank8 banka places i ss (Some v) ≡ [] → CleanNames v
  unfolding channel_faults
  channel_clean i v e = record { i = i; none = e }

  voices_clean : (i : ℕ) (vs : List (Option Voice)) {v : Voice} → voices_faults bank8 banka places i ss vs ≡ [] → In (Some v) vs → CleanNames v
  unfolding voices_faults
  voices_clean i (_ ∷ vs) {v} e here = channel_clean i v (none_both (channel_faults bank8 banka places i ss (Some v)) _ e).0
  voices_clean i (w ∷ vs) e (there m) = voices_clean (i + 1) vs (none_both (channel_faults bank8 banka places i ss w) _ e).1 m
  voices_clean i [] {v = v} e m = elim m [ ]

module _ (bank8 banka : List ℕ) (places : Places) (track : Track) (clean : track_faults bank8 banka places track ≡ []) where
  abbrev ss : List Setting
  ss = settings_of bank8 banka track

  module _ (v : Voice) (in-track : In (Some v) track.voices) where
    abbrev names : List Named
    names = named (banks bank8 banka) v.list

    clean_names : CleanNames bank8 banka places ss v
    unfolding track_faults
    clean_names = voices_clean bank8 banka places ss 0 track.voices clean in-track

    pub no_bad : {place : ℕ} → In (bad place) names → ⊥
    no_bad m = names_good bank8 banka places v.kind clean_names.i ss false names clean_names.none m

    pub block_clean : {place address : ℕ} → In (block place address) names → CleanBlock bank8 banka places v.kind ss address
    block_clean m = names_clean bank8 banka places v.kind clean_names.i ss false names clean_names.none m

    pub first_clean : {place address : ℕ} {rest : List Named} → names ≡ block place address ∷ rest → CleanFirst bank8 banka places v.kind ss address
    first_clean {rest = rest} e = names_first bank8 banka places v.kind clean_names.i ss names rest clean_names.none e

-- what a block sets is set in the track

module _ (bank8 banka : List ℕ) (set : Command → List ℕ) where
  in_blocks_lem : (kind : Kind) (names : List Named) {place address x : ℕ} → In (block place address) names →
      In x (in_commands set (straight kind (block_of bank8 banka address)).commands) → In x (in_blocks set bank8 banka kind names)
  in_blocks_lem kind (_ ∷ names) here m = in_left (in_blocks set bank8 banka kind names) m
  in_blocks_lem kind (block p a ∷ names) (there i) m =
      in_right (in_commands set (straight kind (block_of bank8 banka a)).commands) (in_blocks_lem kind names i m)
  in_blocks_lem kind (bad p ∷ names) (there i) m = in_blocks_lem kind names i m
  in_blocks_lem kind [] {place = place} {address = address} x4 m = elim x4 [ ]

  in_voices_lem : (vs : List (Option Voice)) {v : Option Voice} {x : ℕ} → In v vs → In x (in_voice set bank8 banka v) → In x (in_voices set bank8 banka vs)
  in_voices_lem (_ ∷ vs) here m = in_left (in_voices set bank8 banka vs) m
  in_voices_lem (w ∷ vs) (there i) m = in_right (in_voice set bank8 banka w) (in_voices_lem vs i m)
  in_voices_lem [] {v = v} x4 m = elim x4 [ ]

module _ (bank8 banka : List ℕ) (track : Track) where
  pub header_in : In track.transpose (transposes_of bank8 banka track) × In track.window (windows_of bank8 banka track)
  unfolding transposes_of windows_of
  header_in = (here, here)

  module _ (v : Voice) (in-track : In (Some v) track.voices) {place address : ℕ}
      (is-named : In (block place address) (named (banks bank8 banka) v.list)) where
    voice_set : (set : Command → List ℕ) {x : ℕ} → In x (in_commands set (straight v.kind (block_of bank8 banka address)).commands) →
        In x (in_voices set bank8 banka track.voices)
    voice_set set m =
        in_voices_lem bank8 banka set track.voices in-track
        (in_blocks_lem bank8 banka set v.kind (named (banks bank8 banka) v.list) is-named m)

    pub transpose_set : {m : ℕ} → In m (in_commands transpose_of (straight v.kind (block_of bank8 banka address)).commands) →
        In m (transposes_of bank8 banka track)
    unfolding transposes_of
    transpose_set m = there (voice_set transpose_of m)

    pub window_set : {t : ℕ} → In t (in_commands window_of (straight v.kind (block_of bank8 banka address)).commands) →
        In t (windows_of bank8 banka track)
    unfolding windows_of
    window_set m = there (voice_set window_of m)

-- an odd transpose sets nothing

module _ (bank8 banka : List ℕ) (m : ℕ) where
  blocks_even : (kind : Kind) (names : List Named) → In m (in_blocks transpose_of bank8 banka kind names) → is_odd m ≡ false
  blocks_even kind [] i = none_in i
  blocks_even kind (block p a ∷ names) i =
      let cs = (straight kind (block_of bank8 banka a)).commands in
      in_one (in_commands transpose_of cs) (λ j. all_even cs j) (blocks_even kind names) i
  blocks_even kind (bad p ∷ names) i = blocks_even kind names i

  voice_even : (v : Option Voice) → In m (in_voice transpose_of bank8 banka v) → is_odd m ≡ false
  voice_even None i = none_in i
  voice_even (Some v) i = blocks_even v.kind (named (banks bank8 banka) v.list) i

  voices_even : (vs : List (Option Voice)) → In m (in_voices transpose_of bank8 banka vs) → is_odd m ≡ false
  voices_even [] i = none_in i
  voices_even (v ∷ vs) i = in_one (in_voice transpose_of bank8 banka v) (voice_even v) (voices_even vs) i

pub transposes_even : (bank8 banka : List ℕ) (track : Track) {m : ℕ} → is_odd track.transpose ≡ false → In m (transposes_of bank8 banka track) →
    is_odd m ≡ false
unfolding transposes_of
transposes_even bank8 banka track even here = even
transposes_even bank8 banka track {m} even (there i) = voices_even bank8 banka m track.voices i
