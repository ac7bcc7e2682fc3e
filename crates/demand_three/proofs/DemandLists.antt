-- Indexes in an output, index sets and the generators that they name; and lists whose exponents are taken by value.
use mathlib.Core.Path.{◌≡◌, refl, ap, ◌∙◌}
use mathlib.Core.List.{List, [], ◌∷◌, ◌++◌, map}
use Prim.Native.Nat.{ℕ, zero, suc, ◌+◌, ◌^◌, ◌<◌}
use native.Mathlib.Omega.{arith}
use lib.ListN.{length, get_or, drop, length-map, get_or-map}
use lib.Seq.{ext_get_or}
use Rattle.pauli.specs.Bytes.{u16_at, le16}
use Rattle.pauli.specs.Pauli.{Pauli, I, normal, select}
use Rattle.pauli.specs.Roll.{Sparse, by_value}
use Rattle.pauli.specs.Support.{All}
use Rattle.pauli.specs.Sets.{members}
use Rattle.pauli.proofs.roll.BytesLaws.{length_le16, u16_read}
use Rattle.pauli.proofs.roll.Items.{items_at, items_bytes, length_items_at, items_read}
use Rattle.pauli.proofs.join.ReadBack.{paulis_by_value as lists_by_value}
use Rattle.pauli_theory.specs.Group.{SameGroup}
use Rattle.pauli_theory.proofs.IndexSets.{members_up_to}
use Rattle.pauli_theory.proofs.OverPlaces.{up_to, up_to_length, up_to_at}
use Rattle.pauli_theory.proofs.ByValue.{map_select, normal_inside, inside_normal}
use Rattle.pauli_group.specs.Calls.{paulis, le16s}
use Rattle.demand_three.specs.DemandThree.{indexes_at}

-- ---- indexes of two bytes each

indexes_items : (b : List ℕ) (i n : ℕ) → indexes_at b i n ≡ items_at 2 (u16_at b) i n
unfolding indexes_at items_at
indexes_items b i zero = refl
indexes_items b i (suc n) = ap (u16_at b i ∷◌) (indexes_items b (i + 2) n)

le16s_items : (ns : List ℕ) → le16s ns ≡ items_bytes le16 ns
unfolding le16s items_bytes
le16s_items [] = refl
le16s_items (n ∷ ns) = ap (le16 n ++◌) (le16s_items ns)

pub length_indexes : (b : List ℕ) (i n : ℕ) → length (indexes_at b i n) ≡ n
length_indexes b i n = rw (indexes_items, length_items_at)

-- the numbers that stand from byte i on, read back
pub indexes_read : (b : List ℕ) (i : ℕ) (ns rest : List ℕ) → All (λ n. n < 2 ^ 16) ns → drop i b ≡ le16s ns ++ rest
    → indexes_at b i (length ns) ≡ ns
indexes_read b i ns rest low h =
    indexes_items b i (length ns)
    ∙ items_read 2 le16 length_le16 b (u16_at b) (λ n. n < 2 ^ 16) (u16_read b) ns i rest low (h ∙ ap (◌++ rest) (le16s_items ns))

-- ---- index sets

-- below the length the default does not matter
pub get_or_any : {A : Type 0} (l : List A) (i : ℕ) (d e : A) → i < length l → get_or l i d ≡ get_or l i e
get_or_any [] i d e h = absurd (omega arith)
get_or_any (a ∷ l) zero d e h = refl
get_or_any (a ∷ l) (suc i) d e h = get_or_any l i d e (omega arith)

module _ (gs : List Pauli) where
  by_place : map (λ i. get_or gs i I) (up_to (length gs)) ≡ gs
  by_place =
      let n = length gs in
      let f : ℕ → Pauli = λ i. get_or gs i I in
      let size : length (map f (up_to n)) ≡ n = length-map (up_to n) f ∙ up_to_length n in
      ext_get_or (get_or gs 0 I) (map f (up_to n)) gs size λ i l.
      get_or-map f (up_to n) i 0 ∙ ap f (up_to_at n i (omega (arith, size))) ∙ get_or_any gs i I (get_or gs 0 I) (omega (arith, size))

  -- the generators that an index set names
  pub named_select : (s : ℕ) → s < 2 ^ length gs → map (λ i. get_or gs i I) (members s) ≡ select s gs
  named_select s h =
      let n = length gs in
      let f : ℕ → Pauli = λ i. get_or gs i I in
      ap (map f) (members_up_to n s h) ∙ map_select f s (up_to n) ∙ ap (select s) by_place

-- ---- exponents by value

paulis_by_value : (ps : List Sparse) → paulis (map by_value ps) ≡ map normal (paulis ps)
unfolding paulis
paulis_by_value ps = lists_by_value ps

pub by_value_group : (ps : List Sparse) → SameGroup (paulis ps) (paulis (map by_value ps))
by_value_group ps = rw paulis_by_value (record { there = inside_normal (paulis ps); back = normal_inside (paulis ps) })
