-- Laws of the operations on lists in slots.
use Rattle.std.proofs.Common.{◌≡◌, ℕ, ◌+◌, ◌<◌, ◌≤◌, Bool, true, false, List, [], ◌++◌, map, length, set, sym, refl, ap, ap₂, ◌∙◌, subst, arith, Some, Result, Ok, Err, length-append, get_or-set_other, get_or-set_same}
use mathlib.Core.List.{map-append}
use lib.ListN.{length-map}
use Rattle.std.specs.Result.{IfOk}
use Rattle.std.proofs.Math.Option.{some, none as nothing}
use Rattle.pauli.specs.Condense.{condensed}
use Rattle.pauli.specs.Pauli.{Pauli, normal}
use Rattle.pauli.specs.Refusals.{told_by, number_of}
use Rattle.pauli.specs.Roll.{most_paulis}
use Rattle.pauli.specs.Signed.{paulis_in, list_in}
use Rattle.pauli.specs.Told.{Told, answer, refused, refuse_if}
use Rattle.pauli.specs.declared.refusal.Refusal.{Refusal}
use Rattle.pauli.specs.declared.roll.Roll.{Roll}
use Rattle.pauli.proofs.signed.SignedLaws.{length_paulis}
use Rattle.pauli_theory.specs.WholeCommon.{whole_common}
use Rattle.pauli_theory.specs.Group.{none}
use Rattle.pauli_theory.specs.Modulo.{modulo, try_quotient}
use Rattle.pauli_theory.proofs.ByValue.{values_twice, whole_few, whole_values, modulo_few, modulo_values}
use Rattle.pauli_group.specs.Inner.Area.{further_at}
use Rattle.pauli_group.specs.Inner.Further.{FurtherHas}
use Rattle.pauli_group.specs.Inner.Sources.{listed, joinable}
use Rattle.pauli_group.specs.declared.source.Source.{Source}
use Rattle.pauli_group.specs.declared.source.Source.TheVariants.{Rolled}
use Rattle.pauli_group.specs.declared.source.SourcePair.{SourcePair}
use Rattle.pauli_group.proofs.group.GroupedLaws.{list_length, list_few}
use Rattle.pauli_group.proofs.source.SourceLaws.{source_counted}
use Rattle.combined_lists.specs.Line.{Sign, quotient, common, joined}
use Rattle.combined_lists.specs.Inner.Slots.{on_lists, if_subgroup, list_read, SlotHas, Keepable, SlotHolds, SomeSlot, Operates, FurtherKeeps, SomeFurtherKeeps, Joins, Pairs}
use Rattle.combined_lists.specs.Inner.Worked.{Kept}

-- ---- a slot put among the others

module _ (slots : List (List ℕ)) (at : ℕ) (s : List ℕ) (room : at < length slots) where
  pub put_holds : (gs : List Pauli) → SlotHas s gs → SlotHolds (set slots at s) at gs
  put_holds gs h = subst (λ (t : List ℕ). SlotHas t gs) (sym (get_or-set_same slots at s [] room)) h

  pub put_kept : Kept SlotHolds at slots (set slots at s)
  put_kept i gs l h = subst (λ (t : List ℕ). SlotHas t gs) (sym (get_or-set_other slots at i s [] (λ e. omega arith))) h

-- ---- the further list, kept

-- its Paulis, lent as words
pub further_keepable : {qs x : List ℕ} {n : ℕ} {gs : List Pauli} → FurtherKeeps qs x n gs → (words : List (List ℕ))
    → paulis_in words ≡ list_in x further_at n → Keepable qs words gs
further_keepable {qs} {x} {n} {gs} f words e = record {
  rises = f.has.rises;
  places = f.has.places;
  few = omega (arith, sym (length_paulis words) ∙ ap length (e ∙ f.has.list) ∙ length-map gs (condensed qs), f.few);
  on = f.has.on;
  list = e ∙ f.has.list;
  values = f.values;
}

few_listed : (s : Source) → length (listed s) ≤ 128
few_listed s = list_few _ _ (source_counted s)

pub roll_keeps : (r : Roll) (qs x : List ℕ) (n : ℕ) → FurtherHas qs (map normal (listed (Rolled r))) x n → FurtherKeeps qs x n (list_read (Some r))
unfolding list_read
roll_keeps r qs x n f = record {
  has = f;
  few = omega (arith, length-map (listed (Rolled r)) normal, few_listed (Rolled r));
  values = values_twice (listed (Rolled r));
}

-- ---- the lists of two slots, joined

-- what the limits let pass for one answer they let pass for every other; and so with what they refuse
module _ {A B : Type 0} (a : A) where
  two_pass : (many wide : Bool) → refuse_if many 2 0 (refuse_if wide 7 0 (answer a)) ≡ answer a → (next : Told B) → refuse_if many 2 0 (refuse_if wide 7 0 next) ≡ next
  unfolding refuse_if
  two_pass true wide e next = cc
  two_pass false true e next = cc
  two_pass false false e next = refl

  two_refuse : (many wide : Bool) (n p : ℕ) → refuse_if many 2 0 (refuse_if wide 7 0 (answer a)) ≡ refused n p → (next : Told B)
      → refuse_if many 2 0 (refuse_if wide 7 0 next) ≡ refused n p
  unfolding refuse_if
  two_refuse true wide n p e next = cc
  two_refuse false true n p e next = cc
  two_refuse false false n p e next = cc

pub pairs_of : (left : ℕ) (slots : List (List ℕ)) (r : Result SourcePair Refusal) (first second : Source)
    → told_by {B = ℕ} (λ pair. 0) r ≡ joinable (listed first) (listed second) (answer 0)
    → IfOk r (λ pair. (pair.left ≡ first) × (pair.right ≡ second))
    → ((gs : List Pauli) → SlotHolds slots left gs → listed first ≡ gs) → ((gs : List Pauli) → SlotHolds slots (left + 1) gs → listed second ≡ gs)
    → Pairs left slots r
unfolding joinable
pairs_of left slots (Ok pair) first second told sources f g = record {
  joins = λ x y h k. record {
    left = ap listed sources.0 ∙ f x h;
    right = ap listed sources.1 ∙ g y k;
    within = two_pass 0 _ _ (rw (f x h, g y k) at (sym told));
  };
  refused = tt;
}
pairs_of left slots (Err e) first second told sources f g = record {
  joins = tt;
  refused = λ x y h k. two_refuse 0 _ _ _ _ (rw (f x h, g y k) at (sym told));
}

-- ---- the operations

-- a limit refuses each of them
op_refused : (s : Sign) (x y : List Pauli) (n p : ℕ) → ((next : Told (List Pauli)) → joinable x y next ≡ refused n p) → on_lists s x y ≡ refused n p
unfolding on_lists
op_refused quotient x y n p h = h _
op_refused common x y n p h = h _
op_refused joined x y n p h = h _

-- a refusal that is handed on
module _ (s : Sign) (left : ℕ) (slots : List (List ℕ)) (r : Result Unit Refusal) (e : Refusal) (is : r ≡ Err e) where
  pub refused_op : ((x y : List Pauli) → SlotHolds slots left x → SlotHolds slots (left + 1) y → on_lists s x y ≡ refused (number_of e.reason) e.place)
      → Operates s left slots r slots
  refused_op h = rw is (record { answered = tt; refused = h })

  pub refused_pair : Pairs left slots (Err e) → Operates s left slots r slots
  refused_pair p = refused_op (λ x y h k. op_refused s x y (number_of e.reason) e.place (p.refused x y h k))

-- an operation that leaves its result in the further list of the area w, n Paulis over the places of qs
pub record Works (s : Sign) (left : ℕ) (slots : List (List ℕ)) (qs w : List ℕ) (n : ℕ) : Type 0 where
  pub result : List Pauli → List Pauli → List Pauli
  pub told : (x y : List Pauli) → SlotHolds slots left x → SlotHolds slots (left + 1) y → on_lists s x y ≡ answer (result x y)
  pub keeps : (x y : List Pauli) → SlotHolds slots left x → SlotHolds slots (left + 1) y → FurtherKeeps qs w n (result x y)

module _ {s : Sign} {left : ℕ} {slots : List (List ℕ)} {qs w : List ℕ} {n : ℕ} (o : Works s left slots qs w n) where
  pub some_kept : SomeSlot slots left → SomeSlot slots (left + 1) → SomeFurtherKeeps qs w n
  some_kept x y = record { list = o.result x.list y.list; keeps = o.keeps x.list y.list x.has y.has }

  -- once it is kept in slot left
  pub works_kept : (new : List (List ℕ)) → ((gs : List Pauli) → FurtherKeeps qs w n gs → SlotHolds new left gs) → Kept SlotHolds left slots new
      → Operates s left slots (Ok tt) new
  works_kept new list kept = record {
    answered = λ x y h k. record {
      value = o.result x y;
      told = o.told x y h k;
      holds = list (o.result x y) (o.keeps x y h k);
      kept = kept;
    };
    refused = tt;
  }

-- what two lists that are joined come to
module _ {pair : SourcePair} {x y : List Pauli} (j : Joins pair x y) where
  few_both : length x + length y ≤ 128
  few_both =
      let a = list_length _ _ (source_counted pair.left) in
      let b = list_length _ _ (source_counted pair.right) in
      rw (← j.left, ← j.right) (omega (arith, a, b, pair.few))

  at_lists : (P : List Pauli → List Pauli → Type 0) → P (listed pair.left) (listed pair.right) → P x y
  at_lists P p = rw (← j.left, ← j.right) p

  common_told : on_lists common x y ≡ answer (whole_common x y)
  unfolding on_lists
  common_told = j.within (answer (whole_common x y))

  quotient_is : on_lists quotient x y ≡ if_subgroup (try_quotient none none x y)
  unfolding on_lists
  quotient_is = j.within (if_subgroup (try_quotient none none x y))

module _ {pair : SourcePair} (left : ℕ) (slots : List (List ℕ))
    (joins : (x y : List Pauli) → SlotHolds slots left x → SlotHolds slots (left + 1) y → Joins pair x y) where
  abbrev gs : List Pauli
  gs = listed pair.left

  abbrev hs : List Pauli
  hs = listed pair.right

  -- left in the further list
  module _ (qs w : List ℕ) (n : ℕ) where
    pub joined_works : FurtherHas qs (map normal (gs ++ hs)) w n → Works joined left slots qs w n
    unfolding on_lists
    joined_works f = record {
      result = ◌++◌;
      told = λ x y h k. (joins x y h k).within (answer (x ++ y));
      keeps = λ x y h k.
          let values : map normal (x ++ y) ≡ x ++ y = map-append normal x y ∙ ap₂ ◌++◌ h.values k.values in
          record {
            has = subst (λ (ps : List Pauli). FurtherHas qs ps w n) values (at_lists (joins x y h k) (λ a b. FurtherHas qs (map normal (a ++ b)) w n) f);
            few = omega (arith, length-append x y, few_both (joins x y h k));
            values = values;
          };
    }

    pub common_works : FurtherHas qs (whole_common gs hs) w n → Works common left slots qs w n
    unfolding most_paulis
    common_works f = record {
      result = whole_common;
      told = λ x y h k. common_told (joins x y h k);
      keeps = λ x y h k. record {
        has = at_lists (joins x y h k) (λ a b. FurtherHas qs (whole_common a b) w n) f;
        few = whole_few x y (few_both (joins x y h k));
        values = whole_values x y h.values k.values;
      };
    }

    -- the right list, read again, is the common part
    pub right_works : whole_common gs hs ≡ hs → FurtherHas qs (map normal hs) w n → Works common left slots qs w n
    unfolding most_paulis
    right_works e f = record {
      result = whole_common;
      told = λ x y h k. common_told (joins x y h k);
      keeps = λ x y h k.
          let is : whole_common x y ≡ y = at_lists (joins x y h k) (λ a b. whole_common a b ≡ b) e in
          record {
            has = subst (λ (ps : List Pauli). FurtherHas qs ps w n) (k.values ∙ sym is) (at_lists (joins x y h k) (λ a b. FurtherHas qs (map normal b) w n) f);
            few = whole_few x y (few_both (joins x y h k));
            values = whole_values x y h.values k.values;
          };
    }

    pub quotient_works : (try_quotient none none gs hs ≡ some (modulo none gs hs)) × FurtherHas qs (modulo none gs hs) w n
        → Works quotient left slots qs w n
    unfolding if_subgroup most_paulis
    quotient_works f = record {
      result = modulo none;
      told = λ x y h k.
          quotient_is (joins x y h k) ∙ ap if_subgroup (at_lists (joins x y h k) (λ a b. try_quotient none none a b ≡ some (modulo none a b)) f.0);
      keeps = λ x y h k. record {
        has = at_lists (joins x y h k) (λ a b. FurtherHas qs (modulo none a b) w n) f.1;
        few = modulo_few x y none (few_both (joins x y h k));
        values = modulo_values x y none;
      };
    }

  -- the common part is the left list, which is in its slot
  pub common_left : whole_common gs hs ≡ gs → Operates common left slots (Ok tt) slots
  common_left e = record {
    answered = λ x y h k. record {
      value = whole_common x y;
      told = common_told (joins x y h k);
      holds = subst (λ (ps : List Pauli). SlotHolds slots left ps) (sym (at_lists (joins x y h k) (λ a b. whole_common a b ≡ a) e)) h;
      kept = λ i ps l h. h;
    };
    refused = tt;
  }

  -- the right group is not inside the left one
  pub quotient_refused : (r : Result Unit Refusal) (e : Refusal) → r ≡ Err e
      → (try_quotient none none gs hs ≡ nothing) × (number_of e.reason ≡ 11) × (e.place ≡ 0) → Operates quotient left slots r slots
  unfolding if_subgroup
  quotient_refused r e is f =
      refused_op quotient left slots r e is λ x y h k.
      quotient_is (joins x y h k) ∙ ap if_subgroup (at_lists (joins x y h k) (λ a b. try_quotient none none a b ≡ nothing) f.0)
      ∙ ap₂ refused (sym f.1) (sym f.2)
