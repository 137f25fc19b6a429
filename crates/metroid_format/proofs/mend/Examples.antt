-- Worked examples of mending, by computation.
use Prim.Native.Nat.{ℕ}
use mathlib.Core.List.{List, [], ◌∷◌, map}
use mathlib.Core.Path.{◌≡◌, refl}
use lib.ListN.{length}
use Rattle.metroid_format.specs.Command.{data_limit, is_key, is_preset, note_after, command_of, command_at}
use Rattle.metroid_format.specs.Mend.{closed, mended_from, changes_from, change_words, mending, told_mending, data_left, list_left}
use Rattle.metroid_format.specs.declared.command.Kind.{Kind}
use Rattle.metroid_format.specs.declared.command.Kind.TheVariants.{Melodic, Noise}

-- data and a list, the number and values that a call answers, and both afterwards
record Example : Type 0 where
  kind : Kind
  given : List ℕ
  list : List ℕ
  number : ℕ
  values : List ℕ
  after : List ℕ
  listed : List ℕ

abbrev example : Kind → List ℕ → List ℕ → ℕ → List ℕ → List ℕ → List ℕ → Example
example k g l n v a m = record { kind = k; given = g; list = l; number = n; values = v; after = a; listed = m }

abbrev told : Example → ℕ × List ℕ × List ℕ × List ℕ
told e = (e.number, e.values, e.after, e.listed)

abbrev found : Example → ℕ × List ℕ × List ℕ × List ℕ
found e =
    let t = told_mending (mending data_limit e.kind e.given (length e.list)) in
    (t.number, t.values, data_left data_limit e.kind e.given (length e.list), list_left data_limit e.kind e.given e.list)

mendings : List Example
mendings =
    -- only BL changes: the last byte ends as it began
    example Melodic (0xb0 ∷ 0x00 ∷ []) (7 ∷ 7 ∷ 7 ∷ 7 ∷ []) 0 (1 ∷ []) (0x02 ∷ 0x00 ∷ []) (0 ∷ 0xb0 ∷ 0x02 ∷ 7 ∷ [])
    ∷ example Noise (0xb0 ∷ 0x00 ∷ []) (7 ∷ 7 ∷ 7 ∷ []) 0 (1 ∷ []) (0x01 ∷ 0x00 ∷ []) (0 ∷ 0xb0 ∷ 0x01 ∷ [])
    -- the 00 at 1 is a key
    ∷ example Melodic (0xb0 ∷ 0x00 ∷ 0x80 ∷ []) (7 ∷ 7 ∷ 7 ∷ []) 0 (1 ∷ []) (0xb0 ∷ 0x00 ∷ 0x00 ∷ []) (2 ∷ 0x80 ∷ 0x00 ∷ [])
    -- a byte that changes twice is listed once
    ∷ example Melodic (0xb0 ∷ 0x81 ∷ []) (7 ∷ 7 ∷ 7 ∷ 7 ∷ 7 ∷ 7 ∷ []) 0 (2 ∷ []) (0x02 ∷ 0x00 ∷ []) (0 ∷ 0xb0 ∷ 0x02 ∷ 1 ∷ 0x81 ∷ 0x00 ∷ [])
    -- a BL that is the last byte becomes 00
    ∷ example Melodic (0x2a ∷ 0xb0 ∷ []) (7 ∷ 7 ∷ 7 ∷ []) 0 (1 ∷ []) (0x2a ∷ 0x00 ∷ []) (1 ∷ 0xb0 ∷ 0x00 ∷ [])
    -- nothing behind the end is touched
    ∷ example Noise (0x04 ∷ 0x2a ∷ 0xb1 ∷ 0xa0 ∷ 0x00 ∷ 0x99 ∷ []) (7 ∷ 7 ∷ 7 ∷ 7 ∷ 7 ∷ 7 ∷ []) 0 (2 ∷ []) (0x04 ∷ 0x01 ∷ 0xb1 ∷ 0x01 ∷ 0x00 ∷ 0x99 ∷ []) (1 ∷ 0x2a ∷ 0x01 ∷ 3 ∷ 0xa0 ∷ 0x01 ∷ [])
    ∷ example Melodic (0xc3 ∷ 0xb0 ∷ 0x2a ∷ 0x02 ∷ 0xff ∷ 0x00 ∷ []) [] 0 (0 ∷ []) (0xc3 ∷ 0xb0 ∷ 0x2a ∷ 0x02 ∷ 0xff ∷ 0x00 ∷ []) []
    ∷ example Melodic (0xff ∷ []) (7 ∷ 7 ∷ []) 18 [] (0xff ∷ []) (7 ∷ 7 ∷ [])
    ∷ example Melodic [] (7 ∷ []) 23 [] [] (7 ∷ [])
    ∷ []

mended_right : map found mendings ≡ map told mendings
unfolding mendings is_key is_preset note_after command_of command_at closed mended_from changes_from change_words mending data_left list_left
mended_right = refl
