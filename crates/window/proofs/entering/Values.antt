-- Lists by value and their last ones; the roll of a window's checks has room.
use Rattle.std.proofs.Common.{◌≡◌, ℕ, ◌+◌, ◌-◌, ◌%◌, ◌≤◌, List, [], ◌∷◌, ◌++◌, map, length, take, drop, sym, refl, ap, ap₂, subst, ◌∙◌, arith, length-append, length-drop, drop-drop, take-append-drop}
use Rattle.std.proofs.lemmas.List.{drop-append-le, drop-map}
use mathlib.Core.List.Memᴰ
use mathlib.Core.List.{Memᴰ as Mem}
use lib.ListN.{length-map}
use Rattle.binar.proofs.Lists.{all_right}
use Rattle.pauli.specs.Roll.{most_paulis, Sparse, read, support, numbers, encode, write, by_value}
use Rattle.pauli.specs.Support.{most_qubits, All}
use Rattle.pauli.specs.Told.{answer}
use Rattle.pauli.proofs.join.JoinedLists.{value_within, written_read}
use Rattle.pauli.proofs.roll.Checks.{AllowedSets}
use Rattle.pauli.proofs.roll.Limits.{within_sized, numbers_bound}
use Rattle.pauli.proofs.roll.ListSupport.{numbers_append, support_length}
use Rattle.pauli.proofs.roll.RollLaws.{length_encode}
use Rattle.window.specs.History.{last_of}
use Rattle.window.specs.Layout.{room_bytes}

-- ---- by value

pub value_twice : (p : Sparse) → by_value (by_value p) ≡ by_value p
unfolding by_value
value_twice p = let e : p.e % 4 % 4 ≡ p.e % 4 = omega arith in rw e refl

pub values_twice : (ps : List Sparse) → map by_value (map by_value ps) ≡ map by_value ps
values_twice [] = refl
values_twice (p ∷ ps) = ap₂ ◌∷◌ (value_twice p) (values_twice ps)

-- a roll that is written says nothing more of an exponent
pub write_values : (ps : List Sparse) → write (map by_value ps) ≡ write ps
unfolding write
write_values ps = ap encode (values_twice ps)

-- ---- the last of a list

module _ {A : Type 0} where
  pub last_few : (n : ℕ) (l : List A) → length (last_of n l) ≤ n
  unfolding last_of
  last_few n l = rw length-drop (omega arith)

  -- one more behind the last n
  pub last_more : (n : ℕ) (l r : List A) → last_of n (last_of n l ++ r) ≡ last_of n (l ++ r)
  unfolding last_of
  last_more n l r =
      let k = length l - n in
      let front : drop k l ++ r ≡ drop k (l ++ r) = sym (drop-append-le k l r (omega arith)) in
      let size : k + (length (drop k l ++ r) - n) ≡ length (l ++ r) - n = omega (arith, length-append (drop k l) r, length-drop k l, length-append l r) in
      ap (drop (length (drop k l ++ r) - n)) front ∙ drop-drop (length (drop k l ++ r) - n) k (l ++ r) ∙ ap (λ (j : ℕ). drop j (l ++ r)) size

  -- one more enters n checks: those that stay, then it
  pub last_stay : (n : ℕ) → 1 ≤ n → (l : List A) (a : A) → last_of n (l ++ a ∷ []) ≡ drop (length l + 1 - n) l ++ a ∷ []
  unfolding last_of
  last_stay n h l a =
      ap (λ (j : ℕ). drop (j - n) (l ++ a ∷ [])) (length-append l (a ∷ [])) ∙ drop-append-le (length l + 1 - n) l (a ∷ []) (omega arith)

  pub all_drop : (P : A → Type 0) (n : ℕ) (l : List A) → All P l → All P (drop n l)
  all_drop P n l h = all_right P (take n l) (drop n l) (subst (All P) (sym (take-append-drop n l)) h)

pub last_values : (n : ℕ) (ps : List Sparse) → last_of n (map by_value ps) ≡ map by_value (last_of n ps)
unfolding last_of
last_values n ps = ap (λ (k : ℕ). drop (k - n) (map by_value ps)) (length-map ps by_value) ∙ drop-map by_value (length ps - n) ps

-- ---- the limits

pub drop_qubits : (n : ℕ) (ps : List Sparse) → length (support (drop n ps)) ≤ length (support ps)
drop_qubits n ps =
    let all : numbers (take n ps) ++ numbers (drop n ps) ≡ numbers ps = sym (numbers_append (take n ps) (drop n ps)) ∙ ap numbers (take-append-drop n ps) in
    support_length (drop n ps) ps λ q m. subst (Mem q) all (Memᴰ.append_right (numbers (take n ps)) m)

module _ (ps : List Sparse) (few : length ps ≤ 64) (sets : All AllowedSets ps) (qubits : length (support ps) ≤ most_qubits) where
  count : length ps ≤ most_paulis
  unfolding most_paulis
  count = omega arith

  pub fresh_read : read (write ps) ≡ answer (map by_value ps)
  fresh_read = written_read ps count sets qubits

  pub fresh_room : length (write ps) ≤ room_bytes
  unfolding write most_qubits
  fresh_room =
      let values = map by_value ps in
      omega (arith, few, length-map ps by_value, length_encode values, numbers_bound most_qubits values (within_sized values (value_within ps count sets qubits)))
