-- Ctrl 1 from the rest of an envelope: the turn of a loop over its bytes.
use Prim.Native.Nat.{ℕ, zero, suc, ◌+◌, ◌-◌, ◌*◌, ◌/◌, ◌%◌, ◌≤◌, ◌<◌}
use mathlib.Core.Bool.{Bool, true, false}
use mathlib.Core.List.{List, ◌∷◌, ◌++◌}
use mathlib.Core.Path.{◌≡◌, refl, sym, ◌∙◌}
use native.Mathlib.Numerals.{add-one}
use native.Mathlib.Omega.{arith}
use borrow.Author.Tests.{le-leb, lt-leb, lt-ltb, le-ltb, eq-eqb, ne_eqb, ltb-true, ltb-false}
use lib.Dec.{leb, ltb}
use lib.ListN.{length, take, drop, get_or, length-append, length-take, length-drop, drop_of_length-le}
use lib.Seq.{drop-cons, get_or-take, get_or-drop}
use Rattle.engine_base.specs.Pick.{pick}
use Rattle.engine_base.specs.Address.{offset_of, within}
use Rattle.engine_base.specs.Ctrl1.{silent, default_ctrl1, combined, by_byte}
use Rattle.engine_base.specs.Envelope.{envelope_reach, envelope_address}
use Rattle.mother_player.specs.Ctrl1.{half_of, ctrl1_at, envelope_of, note_ctrl1}
use Rattle.mother_player.specs.declared.record.Channel.{Channel}

-- an offset in the first bank, in the second, or in none
module _ (a b : List ℕ) (at : ℕ) where
  pub in_first : at < length a → true ≡ ltb at (length (a ++ b))
  in_first h = rw (length-append a b) (sym (lt-ltb at (length a + length b) (omega arith)))

  pub in_second : length a ≤ at → at - length a < length b → true ≡ ltb at (length (a ++ b))
  in_second h l = rw (length-append a b) (sym (lt-ltb at (length a + length b) (omega arith)))

  pub in_none : length a ≤ at → length b ≤ at - length a → false ≡ ltb at (length (a ++ b))
  in_none h l = rw (length-append a b) (sym (le-ltb at (length a + length b) (omega arith)))

-- what is given from byte i on: by the byte itself up to that of the index, by the rest past it
abbrev turn : ℕ → List ℕ → ℕ → ℕ → ℕ
turn d s index i =
    by_byte d (get_or s i 0) (pick (leb (index / 2) i) (combined (half_of index (get_or s i 0)) d) (ctrl1_at d (drop (i + 1) s) (index - 2 * (i + 1))))

envelope_turn : (d : ℕ) (s : List ℕ) (index i : ℕ) → i < length s → 2 * i ≤ index → ctrl1_at d (drop i s) (index - 2 * i) ≡ turn d s index i
unfolding ctrl1_at half_of
envelope_turn d s index i h w = rw (drop-cons {A = ℕ} s i 0 h) (at (index - 2 * i) refl)
  where
    at : (m : ℕ) → index - 2 * i ≡ m → ctrl1_at d (get_or s i 0 ∷ drop (suc i) s) m ≡ turn d s index i
    at zero e = rw (le-leb (index / 2) i (omega arith), eq-eqb (index % 2) 0 (omega arith))
    at (suc zero) e = rw (le-leb (index / 2) i (omega arith), ne_eqb (index % 2) 0 (λ z. omega arith))
    at (suc (suc m)) e =
        let q : index - 2 * (i + 1) ≡ m = omega arith in
        rw (lt-leb (index / 2) i (omega arith), q, add-one)

-- past the bytes it is as if FF stood there
envelope_past : (d : ℕ) (s : List ℕ) (index i : ℕ) → length s ≤ i → ctrl1_at d (drop i s) index ≡ default_ctrl1 d
unfolding ctrl1_at
envelope_past d s index i h = rw (drop_of_length-le {A = ℕ} s h)

-- the bytes of an envelope at an offset of the banks
module _ (bank : List ℕ) (at : ℕ) where
  abbrev bytes : List ℕ
  bytes = take envelope_reach (drop at bank)

  byte_of : (i : ℕ) → i < envelope_reach → get_or bytes i 0 ≡ get_or bank (at + i) 0
  byte_of i h = get_or-take envelope_reach (drop at bank) i 0 h ∙ get_or-drop at bank i 0

  held : (i : ℕ) → i < envelope_reach → at + i < length bank → i < length bytes
  held i h l = rw (length-take envelope_reach (drop at bank), length-drop at bank) (omega arith)

  cut : (i : ℕ) → length bank ≤ at + i → length bytes ≤ i
  cut i l = rw (length-take envelope_reach (drop at bank), length-drop at bank) (omega arith)

  all_read : (i : ℕ) → envelope_reach ≤ i → length bytes ≤ i
  all_read i h = rw (length-take envelope_reach (drop at bank), length-drop at bank) (omega arith)

  -- i bytes have been passed
  module _ (d index : ℕ) where
    pub record Along (last i : ℕ) : Type 0 where
      pub halved : last ≡ index / 2
      pub reached : 2 * i ≤ index
      pub same : ctrl1_at d (drop i bytes) (index - 2 * i) ≡ ctrl1_at d bytes index

    pub along_none : Along (index / 2) 0
    along_none = let z : index - 2 * 0 ≡ index = omega arith in record { halved = refl; reached = omega arith; same = rw z }

    module _ (last i : ℕ) (m : Along last i) where
      past : length bytes ≤ i → (x : ℕ) → x ≡ default_ctrl1 d → x ≡ ctrl1_at d bytes index
      past h x e = e ∙ sym (envelope_past d bytes (index - 2 * i) i h) ∙ m.same

      pub past_reach : envelope_reach ≤ i → (x : ℕ) → x ≡ default_ctrl1 d → x ≡ ctrl1_at d bytes index
      past_reach h = past (all_read i h)

      -- r is what `holds` answers
      module _ (r : Bool) (q : r ≡ ltb (at + i) (length bank)) where
        pub past_banks : r ≡ false → (x : ℕ) → x ≡ default_ctrl1 d → x ≡ ctrl1_at d bytes index
        past_banks t = past (cut i (ltb-false _ _ (sym q ∙ t)))

        -- v is the byte
        module _ (h : i < envelope_reach) (t : r ≡ true) (v : ℕ) (b : v ≡ get_or bank (at + i) 0) where
          here : ctrl1_at d bytes index ≡ by_byte d v (pick (leb last i) (combined (half_of index v) d) (ctrl1_at d (drop (i + 1) bytes) (index - 2 * (i + 1))))
          here =
              sym m.same
              ∙ envelope_turn d bytes index i (held i h (ltb-true _ _ (sym q ∙ t))) m.reached
              ∙ rw (byte_of i h, b, m.halved)

          pub silenced : v ≡ 0xf0 → silent ≡ ctrl1_at d bytes index
          silenced z = rw (here, eq-eqb v 0xf0 z)

          module _ (n : v ≡ 0xf0 → ⊥) where
            pub restored : v ≡ 0xff → (x : ℕ) → x ≡ default_ctrl1 d → x ≡ ctrl1_at d bytes index
            restored z x e = rw (here, ne_eqb v 0xf0 n, eq-eqb v 0xff z) e

            module _ (n' : v ≡ 0xff → ⊥) where
              pub shown : last ≤ i → (half : ℕ) → half ≡ half_of index v → (x : ℕ) → x ≡ combined half d → x ≡ ctrl1_at d bytes index
              shown l half e x f = rw (here, ne_eqb v 0xf0 n, ne_eqb v 0xff n', le-leb last i l, ← e) f

              pub along : i < last → Along last (i + 1)
              along l = record {
                halved = m.halved;
                reached = omega (arith, m.halved);
                same = sym (rw (here, ne_eqb v 0xf0 n, ne_eqb v 0xff n', lt-leb last i l));
              }

-- ctrl 1 of a note; x is the number of its envelope
module _ (bank : List ℕ) (table : ℕ) (c : Channel) (x : ℕ) (e : x ≡ c.timbre % 32) where
  pub no_envelope : x ≡ 0 → (r : ℕ) → r ≡ default_ctrl1 c.ctrl → r ≡ note_ctrl1 bank table c
  unfolding ctrl1_at envelope_of note_ctrl1
  no_envelope z r q = rw (← e, eq-eqb x 0 z) q

  -- address is what `address_of` answers
  module _ (n : x ≡ 0 → ⊥) (address : ℕ) (a : address ≡ envelope_address bank table x) (f : Bool) (w : f ≡ within address 1) where
    pub outside : f ≡ false → (r : ℕ) → r ≡ default_ctrl1 c.ctrl → r ≡ note_ctrl1 bank table c
    unfolding ctrl1_at envelope_of note_ctrl1
    outside t r q = rw (← e, ne_eqb x 0 n, ← a, ← w, t) q

    pub along_envelope : f ≡ true → (at : ℕ) → at ≡ offset_of address → (index : ℕ) → index ≡ c.length.count - c.left.count →
        (r : ℕ) → r ≡ ctrl1_at c.ctrl (bytes bank at) index → r ≡ note_ctrl1 bank table c
    unfolding envelope_of note_ctrl1
    along_envelope t at o index i r q = rw (← e, ne_eqb x 0 n, ← a, ← w, t, ← o, ← i) q
