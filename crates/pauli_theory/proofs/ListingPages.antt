-- Pages of a list.
use mathlib.Core.Path.{◌≡◌, sym, ap, ◌∙◌}
use mathlib.Core.List.{List, ◌++◌}
use Prim.Native.Nat.{ℕ, zero, suc, ◌+◌, ◌*◌, ◌≤◌, ◌<◌, min}
use native.Mathlib.Nat.{zero-mul}
use native.Mathlib.Omega.{arith}
use lib.ListN.{take, drop, take-append-drop, length-take, length-drop, drop_of_length-le}
use lib.Seq.{take_all, take-nil, take-add, drop-drop, get_or-take, get_or-drop}
use Rattle.pauli_theory.specs.Standard.{if_zero}
use Rattle.pauli_theory.specs.Listing.{default_page, largest_page, page_size, page}
use Rattle.pauli_theory.specs.ListingTheorems.{pages_from, PageLaw}
use Rattle.pauli_theory.proofs.IfZero.{if_zero_zero, if_zero_more}

module _ (count : ℕ) where
  size_given : 0 < count → page_size count ≡ min count 128
  unfolding page_size largest_page
  size_given h = if_zero_more count default_page (min count 128) h

  pub size_asked : 0 < count → count ≤ 128 → page_size count ≡ count
  size_asked h k = size_given h ∙ omega arith

  pub size_above : 128 < count → page_size count ≡ 128
  size_above h = size_given (omega arith) ∙ omega arith

  pub size_default : count ≡ 0 → page_size count ≡ 64
  unfolding page_size default_page
  size_default e = if_zero_zero 64 (min count largest_page) e

size_limit : (count : ℕ) → page_size count ≤ largest_page
unfolding page_size if_zero default_page largest_page
size_limit zero = omega arith
size_limit (suc count) = omega arith

module _ {A : Type 0} where
  pages_are : (n start count : ℕ) (es : List A) → pages_from n start count es ≡ take (n * page_size count) (drop start es)
  unfolding pages_from page
  pages_are zero start count es = rw zero-mul
  pages_are (suc n) start count es =
      let c = page_size count in
      let e : c + n * c ≡ suc n * c = omega arith in
      ap (take c (drop start es) ++◌) (pages_are n (start + c) count es ∙ ap (take (n * c)) (sym (drop-drop c start es)))
      ∙ sym (take-add c (n * c) (drop start es)) ∙ ap (λ (m : ℕ). take m (drop start es)) e

  pub page_law : (start count : ℕ) (es : List A) → PageLaw start count es
  unfolding page
  page_law start count es = let c = page_size count in record {
    parts = sym (take-append-drop start es)
        ∙ ap (take start es ++◌) (sym (take-append-drop c (drop start es)) ∙ ap (take c (drop start es) ++◌) (drop-drop c start es));
    size = length-take c (drop start es) ∙ ap (min c) (length-drop start es);
    past = λ h. ap (take c) (drop_of_length-le es h) ∙ take-nil c;
    at_number = λ i d h. get_or-take c (drop start es) i d (omega (arith, length-take c (drop start es))) ∙ get_or-drop start es i d;
    limit = size_limit count;
    as_asked = size_asked count;
    above = size_above count;
    by_default = size_default count;
    whole = λ n h. pages_are n 0 count es ∙ take_all (n * c) es h;
  }
