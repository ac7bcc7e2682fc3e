-- Laws of the test whether the rows of a kernel fit a slice behind the form.
use Rattle.std.proofs.Common.{◌≡◌, refl, sym, ap, ◌∙◌, Bool, true, false, ◌&&◌, leb, le-leb, leb-true, ℕ, ◌+◌, ◌-◌, ◌*◌, ◌/◌, ◌≤◌, le-div_iff_mul-le, lt_of_not-le, mul_comm, arith}
use borrow.Author.Tests.{lt-leb}
use native.Mathlib.Decide.{dec_le}
use Rattle.binar.specs.Layout.{form_stride, fits, kernel_place, kernel_fits}
use Rattle.binar.proofs.matrix_form.Formed.{fits_true}

module _ (width n cols m : ℕ) where
  pub kernel_misfit : fits width n cols m ≡ false → kernel_fits width n cols m ≡ false
  unfolding kernel_fits
  kernel_misfit e = rw e

  -- what it tells
  pub kernel_true : kernel_fits width n cols m ≡ true → (fits width n cols m ≡ true) × (kernel_place width n + cols * width ≤ m)
  unfolding kernel_fits
  kernel_true e = go (fits width n cols m) refl e
    where
      go : (b : Bool) → fits width n cols m ≡ b → (b && leb (kernel_place width n + cols * width) m) ≡ true → (fits width n cols m ≡ true) × (kernel_place width n + cols * width ≤ m)
      go true d t = (d, leb-true (kernel_place width n + cols * width) m t)
      go false d t = let z : ◌≡◌ {A = ℕ} 0 1 = cc in absurd (omega arith)

  pub kernel_form : kernel_fits width n cols m ≡ true → (cols ≤ 64 * width) × (n * form_stride width n + n ≤ m)
  kernel_form e = fits_true width n cols m (kernel_true e).0

  module _ (fit : fits width n cols m ≡ true) where
    by_room : kernel_fits width n cols m ≡ leb (kernel_place width n + cols * width) m
    unfolding kernel_fits
    by_room = rw fit

    pub form_room : n * (width + (n + 63) / 64) + n ≤ m
    unfolding form_stride
    form_room = (fits_true width n cols m fit).1

    pub kernel_none : cols ≡ 0 → kernel_fits width n cols m ≡ true
    unfolding kernel_place form_stride
    kernel_none e = by_room ∙ le-leb (kernel_place width n + cols * width) m (omega (arith, form_room, ap (◌* width) e))

    pub kernel_quotient : (cols ≡ 0 → ⊥) → leb width ((m - n * (width + (n + 63) / 64) - n) / cols) ≡ kernel_fits width n cols m
    unfolding kernel_place form_stride
    kernel_quotient z = go (dec_le width (room / cols)) ∙ sym by_room
      where
        room : ℕ
        room = m - n * (width + (n + 63) / 64) - n

        go : Dec (width ≤ room / cols) → leb width (room / cols) ≡ leb (kernel_place width n + cols * width) m
        go (yes y) =
            let k : width * cols ≤ room = (le-div_iff_mul-le {k = cols} {x = width} {y = room} (omega arith)).0 y in
            le-leb width (room / cols) y ∙ sym (le-leb (kernel_place width n + cols * width) m (omega (arith, form_room, mul_comm cols width)))
        go (no k) =
            lt-leb width (room / cols) (lt_of_not-le k)
            ∙ sym (lt-leb (kernel_place width n + cols * width) m (lt_of_not-le (λ r. k ((le-div_iff_mul-le {k = cols} {x = width} {y = room} (omega arith)).1 (omega (arith, form_room, mul_comm cols width))))))
