-- A group in the area stays there when only other words change.
use Rattle.std.proofs.Common.{◌≡◌, ℕ, ◌*◌, ◌≤◌, List, length, ◌∙◌, arith}
use Rattle.pauli.specs.Pauli.{Pauli}
use Rattle.pauli_theory.proofs.ByProducts.{rank_le}
use Rattle.pauli_group.specs.Inner.Area.{target_at, list_at, standard_at, further_at, row_words, stride_of, Outside}
use Rattle.pauli_group.specs.Inner.Groups.{Grouped}
use Rattle.binar.proofs.matrix_form.Alike.{Alike, form_alike}
use Rattle.pauli_group.proofs.area.AreaLaws.{form_room}
use Rattle.pauli_group.proofs.group.GroupLaws.{standards_few}
use Rattle.pauli_group.proofs.list.ListLaws.{list_same}

module _ {gs : List Pauli} {known x : List ℕ} {places r total : ℕ} (g : Grouped gs known x places r total) (few : length gs ≤ 128)
    (room : further_at ≤ length x) {y : List ℕ} where
  -- the words of the group lie before the target, and between the target and the further list
  pub grouped_kept : length y ≡ length x → Alike 0 target_at x y → Alike list_at 1312 x y → Grouped gs known y places r total
  grouped_kept size front middle =
      let n = length gs in
      let form = (form_room n few).0 in
      let low : r ≤ n = omega (arith, g.rank_is, rank_le gs) in
      record {
        support = g.support;
        size = g.size;
        rank_is = g.rank_is;
        form =
            form_alike (stride_of n) n row_words (2 * places) r x y size (omega (arith, form, low, room)) (λ k a b. front k a (omega (arith, form, low)))
            ∙ g.form;
        list = list_same y x list_at n (λ k a b. middle k a (omega arith)) ∙ g.list;
        count = g.count;
        standards =
            list_same y x standard_at total (λ k a b. middle k (omega arith) (omega (arith, standards_few g few))) ∙ g.standards;
      }

  -- the target changes
  pub grouped_target : Outside target_at (stride_of (length gs)) x y → Grouped gs known y places r total
  grouped_target o =
      grouped_kept o.size (λ k a b. o.before k (omega arith)) (λ k a b. o.after k (omega (arith, (form_room (length gs) few).1)))

  -- words from the further list on change
  pub grouped_spare : {i n : ℕ} → Outside i n x y → further_at ≤ i → Grouped gs known y places r total
  grouped_spare o h = grouped_kept o.size (λ k a b. o.before k (omega arith)) (λ k a b. o.before k (omega arith))
