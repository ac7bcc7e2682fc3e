-- Where a form lies in the work area, the lists that stand there, and the area cleared.
use Rattle.std.proofs.Common.{◌≡◌, ℕ, ◌+◌, ◌*◌, ◌/◌, ◌≤◌, List, [], ◌++◌, length, take, drop, sym, ap, ◌∙◌, ap₂, append-nil, mul-le-mul_left, arith, drop_of_length-le, length-take-le}
use Rattle.binar.specs.Layout.{form_stride}
use Rattle.binar.specs.Words.{words, put_row}
use Rattle.pauli.specs.Pauli.{Pauli}
use Rattle.pauli.specs.Signed.{list_in}
use Rattle.pauli_group.specs.Inner.Area.{stride_of}
use Rattle.pauli_group.specs.WorkArea.{work_words, cleared}

-- a form of at most 128 rows, with its pivots, lies before the target
pub form_room : (n : ℕ) → n ≤ 128 → (n * stride_of n + n ≤ 896) × (stride_of n ≤ 6)
unfolding stride_of form_stride
form_room n h =
    let t : 4 + (n + 63) / 64 ≤ 6 = omega arith in
    let a : n * (4 + (n + 63) / 64) ≤ n * 6 = mul-le-mul_left n t in
    (omega (arith, a), t)

-- and one of at most 129
pub form_room_more : (n : ℕ) → n ≤ 129 → (n * stride_of n + n ≤ 1032) × (stride_of n ≤ 7)
unfolding stride_of form_stride
form_room_more n h =
    let t : 4 + (n + 63) / 64 ≤ 7 = omega arith in
    let a : n * (4 + (n + 63) / 64) ≤ n * 7 = mul-le-mul_left n t in
    (omega (arith, a), t)

pub stride_least : (n : ℕ) → 4 ≤ stride_of n
unfolding stride_of form_stride
stride_least n = omega arith

-- the Paulis that a span hands out, by where it stands and how many they are
pub span_list : (w : List ℕ) {ps : List Pauli} {base n base' n' : ℕ} → ps ≡ list_in w base n → (base ≡ base') × (n ≡ n') → ps ≡ list_in w base' n'
span_list w e at = e ∙ ap₂ (list_in w) at.0 at.1

-- ---- the area cleared

module _ (n v : ℕ) where
  -- a row put at the front of a part that holds no more
  pub front_part : (l : List ℕ) → n ≤ length l → put_row (take n l) 0 n v ++ drop n l ≡ put_row l 0 n v
  unfolding put_row
  front_part l h =
      let size : length (take n l) ≡ n = length-take-le n l h in
      let here : 0 + n ≡ n = omega arith in
      let none : drop (0 + n) (take n l) ≡ [] = drop_of_length-le (take n l) {i = 0 + n} (omega arith) in
      ap (λ (r : List ℕ). (words n v ++ r) ++ drop n l) none ∙ ap (◌++ drop n l) (append-nil (words n v))
      ∙ ap (λ (k : ℕ). words n v ++ drop k l) (sym here)

  -- a row put in place of the whole
  pub front_whole : (x y : List ℕ) → length x ≡ n → length y ≡ n → put_row x 0 n v ≡ put_row y 0 n v
  unfolding put_row
  front_whole x y a b =
      ap (words n v ++◌) (drop_of_length-le x {i = 0 + n} (omega arith) ∙ sym (drop_of_length-le y {i = 0 + n} (omega arith)))

-- the first 4,096 words of an area, cleared by themselves
pub cleared_part : (work : List ℕ) → work_words ≤ length work → cleared (take work_words work) ++ drop work_words work ≡ cleared work
unfolding cleared
cleared_part work h = front_part work_words 0 work h

-- an area of 4,096 words, cleared after any changes
pub cleared_whole : (x work : List ℕ) → length x ≡ work_words → length work ≡ work_words → put_row x 0 work_words 0 ≡ cleared work
unfolding cleared
cleared_whole x work a b = front_whole work_words 0 x work a b
