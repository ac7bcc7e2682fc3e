-- Laws of the test whether a matrix fits a slice.
use mathlib.Core.Path.{◌≡◌, sym, ap, ◌∙◌}
use mathlib.Core.Bool.{true, false}
use Prim.Native.Nat.{ℕ, suc, ◌+◌, ◌*◌, ◌/◌, ◌%◌, ◌≤◌, ◌<◌}
use native.Mathlib.Nat.{le-div_iff_mul-le, zero-mul, suc-mul, mul_comm, mul-le-mul_right, one-mul, lt_of_not-le}
use native.Mathlib.Decide.{dec_lt}
use native.Mathlib.Omega.{arith}
use borrow.Author.Tests.{le-leb, lt-leb, lt-ltb, le-ltb}
use lib.Dec.{leb, ltb}
use Rattle.binar.specs.Layout.{form_stride, fits}

module _ (width n cols m : ℕ) where
  pub fits_narrow : width < cols / 64 + (cols % 64 + 63) / 64 → fits width n cols m ≡ false
  unfolding fits
  fits_narrow h = rw (lt-leb cols (64 * width) (omega arith))

  module _ (wide : cols / 64 + (cols % 64 + 63) / 64 ≤ width) where
    by_room : fits width n cols m ≡ leb (n * form_stride width n + n) m
    unfolding fits
    by_room = rw (le-leb cols (64 * width) (omega arith))

    pub fits_none : n ≡ 0 → fits width n cols m ≡ true
    fits_none e = by_room ∙ le-leb (n * form_stride width n + n) m (omega (arith, ap (◌* form_stride width n) e, zero-mul (form_stride width n)))

    pub fits_rows : m < n → fits width n cols m ≡ false
    fits_rows h = by_room ∙ lt-leb (n * form_stride width n + n) m (omega arith)

    pub fits_width : (n ≡ 0 → ⊥) → m < width → fits width n cols m ≡ false
    unfolding form_stride
    fits_width z h =
        let one : 1 * form_stride width n ≤ n * form_stride width n = mul-le-mul_right (form_stride width n) (omega arith) in
        by_room ∙ lt-leb (n * form_stride width n + n) m (omega (arith, one, one-mul (form_stride width n)))

    pub fits_quotient : (n ≡ 0 → ⊥) → ltb (width + (n + 63) / 64) (m / n) ≡ fits width n cols m
    unfolding form_stride
    fits_quotient z = go (dec_lt (form_stride width n) (m / n)) ∙ sym by_room
      where
        e : suc (form_stride width n) * n ≡ n * form_stride width n + n
        e = suc-mul (form_stride width n) n ∙ ap (◌+ n) (mul_comm (form_stride width n) n)

        go : Dec (form_stride width n < m / n) → ltb (form_stride width n) (m / n) ≡ leb (n * form_stride width n + n) m
        go (yes y) = lt-ltb _ _ y ∙ sym (le-leb (n * form_stride width n + n) m (rw (← e) ((le-div_iff_mul-le {k = n} {x = suc (form_stride width n)} {y = m} (omega arith)).0 y)))
        go (no k) = le-ltb (form_stride width n) (m / n) (omega arith) ∙ sym (lt-leb (n * form_stride width n + n) m (lt_of_not-le (λ r. k ((le-div_iff_mul-le {k = n} {x = suc (form_stride width n)} {y = m} (omega arith)).1 (rw e r)))))
