-- The two notions of reduced form say the same of rows with no bit past column c.
use mathlib.Core.Path.{◌≡◌, refl, ap, ◌∙◌}
use mathlib.Core.List.{List, [], ◌∷◌}
use Prim.Native.Nat.{ℕ, zero, suc, ◌^◌, ◌≤◌, ◌<◌}
use native.Mathlib.Omega.{arith}
use lib.ListN.{length, get_or}
use lib.Pow.{pow_pos}
use Rattle.binar.specs.Row.{bit}
use Rattle.binar.specs.Space.{ReducedForm}
use Rattle.binar.proofs.row.Bits.{bit_of_zero, Blank, blank_zero}
use Rattle.binar.proofs.Lists.{All, all_map, all_get, all_get_d, all_by}
use Rattle.binar.proofs.echelon.Span.{blank_subspace}
use Rattle.binar.proofs.echelon.Reduced.{Reduced, last, next, pivots_in, reduced_room, reduced_from, reduced_blank}

-- ---- from the inductive notion, by index
pivots_rise : {c lo : ℕ} {ps M : List ℕ} → Reduced c lo ps M → (i j : ℕ) → i < j → j < length ps → get_or ps i 0 < get_or ps j 0
pivots_rise (last z) i j l h = absurd (omega arith)
pivots_rise (next {ps} a u x o z more) zero zero l h = absurd (omega arith)
pivots_rise (next {p} {ps} a u x o z more) zero (suc j) l h = all_get (λ q. p < q) ps 0 (reduced_from more) j (omega arith)
pivots_rise (next a u x o z more) (suc i) zero l h = absurd (omega arith)
pivots_rise (next a u x o z more) (suc i) (suc j) l h = pivots_rise more i j (omega arith) (omega arith)

first_ones : {c lo : ℕ} {ps M : List ℕ} → Reduced c lo ps M → (i : ℕ) → i < length ps
    → (bit (get_or M i 0) (get_or ps i 0) ≡ 1) × Blank 0 (get_or ps i 0) (get_or M i 0)
first_ones (last z) i l = absurd (omega arith)
first_ones (next a u x o z more) zero l = (o, x)
first_ones (next a u x o z more) (suc i) l = first_ones more i (omega arith)

other_rows : {c lo : ℕ} {ps M : List ℕ} → Reduced c lo ps M → (i j : ℕ) → i < length ps → (j ≡ i → ⊥) → bit (get_or M j 0) (get_or ps i 0) ≡ 0
other_rows (last z) i j l n = absurd (omega arith)
other_rows (next a u x o z more) zero zero l n = absurd (n refl)
other_rows (next {p} {M} a u x o z more) zero (suc j) l n =
    all_get_d (λ v. bit v p ≡ 0) M 0 (bit_of_zero p) (all_map (λ w b. b p (omega arith) (omega arith)) M (reduced_blank more u)) j
other_rows (next {v} {ps} a u x o z more) (suc i) zero l n = all_get (λ q. bit v q ≡ 0) ps 0 z i (omega arith)
other_rows (next a u x o z more) (suc i) (suc j) l n = other_rows more i j (omega arith) (omega arith)

last_rows : {c lo : ℕ} {ps M : List ℕ} → Reduced c lo ps M → (i : ℕ) → length ps ≤ i → Blank 0 c (get_or M i 0)
last_rows (last {M} z) i l = all_get_d (Blank 0 _) M 0 (blank_subspace 0 _).origin z i
last_rows (next a u x o z more) zero l = absurd (omega arith)
last_rows (next a u x o z more) (suc i) l = last_rows more i (omega arith)

pub to_form : {c : ℕ} {ps M : List ℕ} → Reduced c 0 ps M → All (λ v. v < 2 ^ c) M → ReducedForm c M ps
to_form {c} {ps} {M} r h =
    let narrow : (i : ℕ) → get_or M i 0 < 2 ^ c = all_get_d (λ v. v < 2 ^ c) M 0 (pow_pos c) h in
    record {
      narrow = narrow;
      room = reduced_room r;
      inside = all_get (λ q. q < c) ps 0 (pivots_in r);
      rise = pivots_rise r;
      one = λ i l. (first_ones r i l).0;
      first = λ i k l u. (first_ones r i l).1 k (omega arith) u;
      alone = other_rows r;
      zeros = λ i l. blank_zero c (get_or M i 0) (narrow i) (last_rows r i l);
    }

-- ---- and back
tail_form : {c p v : ℕ} {ps M : List ℕ} → ReducedForm c (v ∷ M) (p ∷ ps) → ReducedForm c M ps
tail_form F = record {
  narrow = λ i. F.narrow (suc i);
  room = omega (arith, F.room);
  inside = λ i l. F.inside (suc i) (omega arith);
  rise = λ i j l h. F.rise (suc i) (suc j) (omega arith) (omega arith);
  one = λ i l. F.one (suc i) (omega arith);
  first = λ i k l u. F.first (suc i) k (omega arith) u;
  alone = λ i j l n. F.alone (suc i) (suc j) (omega arith) (λ e. n (omega arith));
  zeros = λ i l. F.zeros (suc i) (omega arith);
}

from_form_at : {c : ℕ} (lo : ℕ) (ps M : List ℕ) → ((i : ℕ) → i < length ps → lo ≤ get_or ps i 0) → ReducedForm c M ps → Reduced c lo ps M
from_form_at {c} lo [] M h F = last (all_by (Blank 0 c) M 0 λ i l k a u. ap (λ (v : ℕ). bit v k) (F.zeros i (omega arith)) ∙ bit_of_zero k)
from_form_at lo (p ∷ ps) [] h F = absurd (omega (arith, F.room))
from_form_at lo (p ∷ ps) (v ∷ M) h F =
    next (h 0 (omega arith)) (F.inside 0 (omega arith)) (λ k l u. F.first 0 k (omega arith) u) (F.one 0 (omega arith))
    (all_by (λ q. bit v q ≡ 0) ps 0 λ i l. F.alone (suc i) 0 (omega arith) (λ e. omega arith))
    (from_form_at (suc p) ps M (λ i l. F.rise 0 (suc i) (omega arith) (omega arith)) (tail_form F))

pub from_form : {c : ℕ} {ps M : List ℕ} → ReducedForm c M ps → Reduced c 0 ps M
from_form {ps} {M} F = from_form_at 0 ps M (λ i l. omega arith) F

pub form_narrow : {c : ℕ} {ps M : List ℕ} → ReducedForm c M ps → All (λ v. v < 2 ^ c) M
form_narrow {c} {M} F = all_by (λ v. v < 2 ^ c) M 0 λ i l. F.narrow i
