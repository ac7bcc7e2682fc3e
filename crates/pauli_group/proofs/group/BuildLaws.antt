-- What is in the work area once the form and the standard generators of a list are made.
use Rattle.std.proofs.Common.{◌≡◌, ℕ, ◌+◌, ◌*◌, ◌/◌, ◌%◌, ◌^◌, ◌≤◌, List, map, length, take, drop, sym, ap, ◌∙◌, ap₂, arith, take_all}
use mathlib.Core.List.{map-map}
use lib.ListN.{length-map}
use Rattle.binar.specs.Echelon.{Row, rank as echelon_rank}
use Rattle.binar.specs.Layout.{form_in}
use Rattle.binar.specs.Words.{matrix}
use Rattle.binar.proofs.Lists.{map_drop}
use Rattle.binar.proofs.echelon.Matrix.{length_matrix}
use Rattle.binar.proofs.echelon.Bounds.{rank_rows}
use Rattle.pauli.specs.Pauli.{Pauli, indexed_product}
use Rattle.pauli.specs.Signed.{list_in}
use Rattle.pauli.proofs.write.Writers.{length_list}
use Rattle.pauli_theory.proofs.Form.{map_take}
use Rattle.pauli_group.specs.Inner.Area.{list_at, standard_at, further_at, row_words, stride_of, Outside}
use Rattle.pauli_group.specs.Inner.Groups.{products_named, Built}
use Rattle.pauli_group.specs.Inner.Lists.{row_over, form_over, products_by, from_products}
use Rattle.binar.proofs.matrix_form.Alike.{form_alike}
use Rattle.pauli_group.proofs.area.AreaLaws.{form_room}
use Rattle.pauli_group.proofs.list.ListLaws.{outside_join, outside_wider, list_kept, list_kept_after}

-- by the rows of the form
pub products_rows : (n cols r first count : ℕ) (l : List ℕ) (ps : List Pauli)
    → products_by n first count l ps ≡ map (λ q. indexed_product q.t ps) (take count (drop first (form_in (stride_of n) n row_words cols r l).rows))
unfolding products_by form_in
products_rows n cols r first count l ps =
    let M = matrix (stride_of n) n l in
    let row : ℕ → Row = λ v. record { r = v % 2 ^ cols; t = v / 2 ^ (64 * row_words) } in
    sym (map-map (λ (q : Row). indexed_product q.t ps) row (take count (drop first M)))
    ∙ ap (map (λ (q : Row). indexed_product q.t ps)) (map_take row count (drop first M) ∙ ap (take count) (sym (map_drop row first M)))

pub products_named_lem : (n cols r : ℕ) (l : List ℕ) (ps : List Pauli)
    → products_by n 0 n l ps ≡ products_named (form_in (stride_of n) n row_words cols r l) ps
unfolding products_named form_in
products_named_lem n cols r l ps =
    let row : ℕ → Row = λ v. record { r = v % 2 ^ cols; t = v / 2 ^ (64 * row_words) } in
    let M = matrix (stride_of n) n l in
    products_rows n cols r 0 n l ps
    ∙ ap (map (λ (q : Row). indexed_product q.t ps)) (take_all n (map row M) (omega (arith, length-map M row, length_matrix (stride_of n) n l)))

pub rank_few : (l : List ℕ) (n s : ℕ) → echelon_rank (form_over s (list_in l list_at n)) ≤ n
unfolding form_over
rank_few l n s = omega (arith, rank_rows (2 * s) (map (row_over s) (list_in l list_at n)), length-map (list_in l list_at n) (row_over s), length_list l list_at n)

-- the area at first, with the form, with the products and with the standard generators
module _ (l f p x : List ℕ) (n s r total : ℕ) (few : n ≤ 128) (size : length l ≡ 4096)
    (rank_is : r ≡ echelon_rank (form_over s (list_in l list_at n)))
    (form : form_in (stride_of n) n row_words (2 * s) r f ≡ form_over s (list_in l list_at n))
    (formed : Outside 0 (n * stride_of n + n) l f)
    (products : list_in p standard_at n ≡ products_by n 0 n f (list_in f list_at n))
    (multiplied : Outside standard_at (5 * n) f p)
    (count : total ≡ length (from_products r (list_in p standard_at n)))
    (list : list_in x standard_at total ≡ from_products r (list_in p standard_at n))
    (changed : Outside standard_at (5 * n + 5) p x) where
  later : Outside standard_at (5 * n + 5) f x
  later = outside_join (outside_wider standard_at (5 * n + 5) multiplied (omega arith) (omega arith)) changed

  list_first : list_in f list_at n ≡ list_in l list_at n
  list_first = list_kept_after formed list_at n (omega (arith, (form_room n few).0))

  named : list_in p standard_at n ≡ products_named (form_over s (list_in l list_at n)) (list_in l list_at n)
  named = products ∙ products_named_lem n (2 * s) r f (list_in f list_at n) ∙ ap₂ products_named form list_first

  pub built : Built l n s x r total
  built = record {
    rank_is = rank_is;
    form =
        form_alike (stride_of n) n row_words (2 * s) r f x later.size (omega (arith, (form_room n few).0, rank_few l n s, rank_is, formed.size, size))
        (λ k a b. later.before k (omega (arith, (form_room n few).0, rank_few l n s, rank_is)))
        ∙ form;
    list = list_kept later list_at n (omega arith) ∙ list_first;
    count = count ∙ ap (λ (ps : List Pauli). length (from_products r ps)) named;
    standards = list ∙ ap (from_products r) named;
    rest =
        outside_join (outside_wider 0 further_at formed (omega arith) (omega (arith, (form_room n few).0)))
        (outside_wider 0 further_at later (omega arith) (omega arith));
  }
