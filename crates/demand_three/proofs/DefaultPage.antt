-- The size of a page depends on what count 0 means for count 0 alone.
use Rattle.std.proofs.Common.{◌≡◌, refl, sym, ap, ◌∙◌, List, length, min, ℕ, ◌<◌, arith}
use Rattle.pauli.specs.Writing.{told_bytes, left_in}
use Rattle.pauli_theory.specs.Group.{Promise}
use Rattle.pauli_theory.specs.Listing.{default_page, largest_page, page_size, page}
use Rattle.pauli_theory.proofs.IfZero.{if_zero_more}
use Rattle.pauli_theory.proofs.ListingPages.{size_asked, size_default}
use Rattle.pauli_group.specs.Calls.{page_bytes, elements_call}
use Rattle.sizes.specs.Calls.{page_elements, page_call}
use Rattle.demand_three.specs.DefaultPage.{size_with, elements_with, page_with, DefaultPage}

module _ (d count : ℕ) (given : 0 < count) where
  same_size : page_size count ≡ size_with d count
  unfolding page_size size_with
  same_size = if_zero_more count default_page (min count largest_page) given ∙ sym (if_zero_more count d (min count largest_page) given)

  module _ (promise : Promise) (start : ℕ) (b : List ℕ) (words : ℕ) where
    same_elements : elements_call promise start count b words ≡ elements_with d promise start count b words
    unfolding elements_call elements_with page_bytes page
    same_elements = rw same_size

    same_page : page_call promise start count b words ≡ page_with d promise start count b words
    unfolding page_call page_with page_elements
    same_page = rw same_size

zero_size : page_size 0 ≡ page_size 64
zero_size = size_default 0 refl ∙ sym (size_asked 64 (omega arith) (omega arith))

module _ (promise : Promise) (start : ℕ) (b : List ℕ) (words : ℕ) where
  zero_elements : elements_call promise start 0 b words ≡ elements_call promise start 64 b words
  unfolding elements_call page_bytes page
  zero_elements = rw zero_size

  zero_page : page_call promise start 0 b words ≡ page_call promise start 64 b words
  unfolding page_call page_elements
  zero_page = rw zero_size

pub default_page_law : (d : ℕ) → DefaultPage d
default_page_law d = record {
  elements = λ promise start count b work out r work' out' h c.
      let e = same_elements d count h promise start b (length work) in
      record { told = c.told ∙ ap (λ t. told_bytes t out) e; left = c.left ∙ ap (λ t. left_in t out) e; area = c.area };
  page_size = λ promise start count b work r work' h c.
      record { told = c.told ∙ same_page d count h promise start b (length work); area = c.area };
  elements_zero = λ promise start b work out r work' out' c.
      let e = zero_elements promise start b (length work) in
      record { told = c.told ∙ ap (λ t. told_bytes t out) e; left = c.left ∙ ap (λ t. left_in t out) e; area = c.area };
  page_zero = λ promise start b work r work' c. record { told = c.told ∙ zero_page promise start b (length work); area = c.area };
}
