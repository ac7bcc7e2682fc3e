-- The laws of specs/PauliTheorems.antt that no other module puts together; `place_law` and `condense_law` are in Places, `row_law` in Rows.
use Rattle.std.proofs.Common.{List, refl}
use mathlib.Core.List.Memᴰ
use mathlib.Core.List.{Memᴰ as Mem}
use lib.Count.{ones}
use Rattle.binar.specs.Row.{◌⊕◌, dot}
use Rattle.pauli.specs.Pauli.{Y, order_four, act}
use Rattle.pauli.specs.Roll.{Sparse, support}
use Rattle.pauli.specs.Sets.{pauli_of}
use Rattle.pauli.specs.PauliTheorems.{ActionLaw, YLaw, AlgebraLaw, SetLaw, PauliOn, SupportLaw, StoredLaw}
use Rattle.pauli.proofs.roll.ListSupport.{support_rises, sets_in_support, in_support}
use Rattle.pauli.proofs.condense.Action.{act_times, same_acts, acts_same}
use Rattle.pauli.proofs.signed.Algebra.{times_assoc, I-times, times-I, times_same, times_lt, turned_is, turned_four, times_swap, times_self, anticommute_comm, anticommute_times_l, anticommute_times_r, order_four_times}
use Rattle.pauli.proofs.signed.Products.{product_append, product_lt}
use Rattle.pauli.proofs.signed.SignedLaws.{stored_value, times_value, indexed_value}
use Rattle.pauli.proofs.condense.Sets.{set_has, set_only, members_rise, set_members, members_set, members_count}
use Rattle.pauli.proofs.condense.Places.{place_law}

pub action_law : ActionLaw
action_law = record { product = act_times; same_acts = same_acts; acts_same = acts_same }

pub y_law : YLaw
unfolding act Y ◌⊕◌ dot ones order_four
y_law = record { on_zero = refl; on_one = refl; order_two = refl }

pub algebra_law : AlgebraLaw
algebra_law =
    record {
      associative = times_assoc;
      I-left = I-times;
      I-right = times-I;
      by_value = times_same;
      turned_is = turned_is;
      four_turns = turned_four;
      swapped = times_swap;
      square = times_self;
      anticommute_symmetric = anticommute_comm;
      anticommute_left = anticommute_times_l;
      anticommute_right = anticommute_times_r;
      order_four_times = order_four_times;
      product_append = product_append;
      times_exponent = times_lt;
      product_exponent = product_lt;
    }

pub stored_law : StoredLaw
stored_law = record { value = λ p. stored_value p refl; product = λ p q. times_value p q refl; indexed = λ s gs. indexed_value s gs refl }

pub set_law : SetLaw
set_law =
    record {
      set_has = set_has;
      set_only = set_only;
      members_rise = members_rise;
      set_members = set_members;
      members_set = members_set;
      members_count = members_count;
    }

support_covers : (ps : List Sparse) (p : Sparse) → Mem p ps → PauliOn (support ps) (pauli_of p)
unfolding pauli_of
support_covers ps p m =
    record {
      x = λ q e. sets_in_support p ps m q (Memᴰ.append_left p.zs (set_only p.xs q e));
      z = λ q e. sets_in_support p ps m q (Memᴰ.append_right p.xs (set_only p.zs q e));
    }

pub support_law : (ps : List Sparse) → SupportLaw ps
support_law ps =
    record {
      has = λ q p m i. set_has (support ps) q (sets_in_support p ps m q i);
      only = λ q h. in_support ps q (set_only (support ps) q h);
      rises = support_rises ps;
      places = place_law (support ps) (support_rises ps);
      covers = support_covers ps;
    }
