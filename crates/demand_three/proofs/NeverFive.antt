-- Each call's chain of tests has other numbers than 5.
use Rattle.std.specs.Prelude.{if◌then◌else◌}
use Rattle.std.proofs.Common.{◌≡◌, refl, inl, inr, eqb, List, [], ◌∷◌, length, ℕ, Option, Some, None, arith, Bool, true, false}
use Rattle.std.proofs.Math.Option.{Option as MathOption, some, none}
use Rattle.pauli.specs.declared.refusal.Reason.{Reason}
use Rattle.pauli.specs.declared.refusal.Reason.TheVariants.{Length, Paulis, Entry, Exponent, Rising, Qubits, Number, Work, Listing, Subgroup, Output, Support, Line, Depth, Claim, Width, Checks, Mark, Marks}
use Rattle.pauli.specs.JoinCalls.{Lists, read_both, few_qubits, within, factors_of, product_of, made_with, made_of, joined_of, join_of, entry_of, stretch_of}
use Rattle.pauli.specs.OneQubit.{one_qubit_call}
use Rattle.pauli.specs.Refusals.{number_of}
use Rattle.pauli.specs.Roll.{Sparse, support, read, count_of}
use Rattle.pauli.specs.Told.{Told, answer, refused, and_then}
use Rattle.pauli.specs.Writing.{told_bytes}
use Rattle.pauli.specs.Pauli.{Pauli}
use Rattle.pauli.proofs.roll.Told.{Never, never, never_answer, never_test, never_on, never_then, never_map}
use Rattle.pauli.proofs.roll.NeverFive.{read_never}
use Rattle.pauli_theory.specs.Group.{Promise, none as no_promise}
use Rattle.pauli_theory.specs.Claims.{Claim as MemberClaim}
use Rattle.pauli_theory.specs.Membership.{Factorization}
use Rattle.pauli_theory.specs.Modulo.{try_quotient}
use Rattle.pauli_group.specs.WorkArea.{enough, work_words}
use Rattle.pauli_group.specs.Calls.{one_list, paulis, standard_generators, rank_call, phases_call, abelian_call, stabilizer_call, size_call, question, factorization_call, told_member, elements_call, symplectic_call, two_lists, order_call, modulo_call, quotient_bytes, quotient_call, common_call}
use Rattle.factorizations.specs.Calls.{questions, factorizations_call, told_results}
use Rattle.sizes.specs.Calls.{joined_sizes, standard_bound, page_call}
use Rattle.centralizer.specs.Calls.{fitting, checked, generators_of, within_checked, own_checked, own_call, within_call}
use Rattle.combined_lists.specs.Line.{Sign, quotient, common, joined, Tree, letter, parens, operation}
use Rattle.combined_lists.specs.LineCall.{tree_told, line_told, sent_of}
use Rattle.combined_lists.specs.Reader.{tree_of}
use Rattle.combined_lists.specs.Work.{value_of}
use Rattle.combined_lists.specs.Combining.{all_read, checked_line, single_call, line_bytes, combine_call}
use Rattle.claims.specs.Calls.{formed, member_checked, member_call, absence_checked, absence_call}
use Rattle.window.specs.History.{only_one, check_in, few_inside, allowed_width}
use Rattle.window.specs.Layout.{roll_in, made, sent}
use Rattle.window.specs.MarkHistory.{Named, kept_at, keep_few, known}
use Rattle.window.specs.MarkLayout.{marks_in, state, saved, returned, deleted}
use Rattle.closing_report.specs.InputRolls.{rolls_in}
use Rattle.closing_report.specs.Listing.{or_refused_in, listing, text_of}
use Rattle.demand_three.specs.NeverFive.{NoFiveIn, CallsNeverFive}

-- ---- outputs

bytes_never : (t : Told (List ℕ)) (out : List ℕ) → Never 5 t → Never 5 (told_bytes t out)
unfolding told_bytes
bytes_never (answer bs) out h = never_test 5 _ 12 0 _ (omega arith) (never_answer 5 (length bs))
bytes_never (refused n p) out h = never_on _ _ 5 n p h

member_never : (t : Told (MathOption Factorization)) (out : List ℕ) → Never 5 t → Never 5 (told_member t out)
unfolding told_member
member_never (answer (some f)) out h = never_test 5 _ 12 0 _ (omega arith) (never_answer 5 _)
member_never (answer none) out h = never_answer 5 none
member_never (refused n p) out h = never_on _ _ 5 n p h

results_never : (t : Told (List (MathOption Factorization))) (out : List ℕ) → Never 5 t → Never 5 (told_results t out)
unfolding told_results
results_never (answer os) out h = never_test 5 _ 12 0 _ (omega arith) (never_answer 5 _)
results_never (refused n p) out h = never_on _ _ 5 n p h

-- ---- one roll

module _ {A : Type 0} where
  enough_never : (words : ℕ) (next : Told A) → Never 5 next → Never 5 (enough words next)
  unfolding enough
  enough_never words next h = never_test 5 _ 9 0 next (omega arith) h

  few_never : (b : Lists) (next : Told A) → Never 5 next → Never 5 (few_qubits b next)
  unfolding few_qubits
  few_never b next h = never_test 5 _ 7 0 next (omega arith) h

  within_never : (n : ℕ) (ps : List Sparse) (next : Told A) → Never 5 next → Never 5 (within n ps next)
  unfolding within
  within_never n ps next h = never_test 5 _ 8 0 next (omega arith) h

  fitting_never : (named own : List ℕ) (next : Told A) → Never 5 next → Never 5 (fitting named own next)
  unfolding fitting
  fitting_never named own next h = never_test 5 _ 13 0 next (omega arith) h

one_never : (b : List ℕ) (words : ℕ) → Never 5 (one_list b words)
unfolding one_list
one_never b words = never_then 5 (read b) _ (read_never b) λ ps. enough_never words _ (never_answer 5 (paulis ps))

elements_never : (promise : Promise) (start count : ℕ) (b : List ℕ) (words : ℕ) → Never 5 (elements_call promise start count b words)
unfolding elements_call
elements_never promise start count b words = never_then 5 (one_list b words) _ (one_never b words) λ gs. never_test 5 _ 10 0 _ (omega arith) (never_answer 5 _)

page_never : (promise : Promise) (start count : ℕ) (b : List ℕ) (words : ℕ) → Never 5 (page_call promise start count b words)
unfolding page_call
page_never promise start count b words = never_then 5 (one_list b words) _ (one_never b words) λ gs. never_test 5 _ 10 0 _ (omega arith) (never_answer 5 _)

checked_never : (named : List ℕ) (ps : List Sparse) (words : ℕ) → Never 5 (checked named ps words)
unfolding checked
checked_never named ps words = fitting_never named (support ps) _ (enough_never words _ (never_answer 5 (paulis ps)))

within_call_never : (b named : List ℕ) (words : ℕ) → Never 5 (within_call b named words)
unfolding within_call generators_of within_checked
within_call_never b named words = never_map 5 _ _ (never_then 5 (read b) _ (read_never b) λ ps. checked_never named ps words)

own_never : (b : List ℕ) (words : ℕ) → Never 5 (own_call b words)
unfolding own_call own_checked
own_never b words = never_map 5 _ _ (never_then 5 (read b) _ (read_never b) λ ps. checked_never (support ps) ps words)

-- ---- two rolls

both_never : (l r : List ℕ) → Never 5 (read_both l r)
unfolding read_both
both_never l r = never_then 5 (read l) _ (read_never l) λ ps. never_then 5 (read r) _ (read_never r) λ qs. never_answer 5 _

factors_never : (l : List ℕ) (i : ℕ) (r : List ℕ) (j : ℕ) → Never 5 (factors_of l i r j)
unfolding factors_of
factors_never l i r j =
    never_then 5 (read_both l r) _ (both_never l r) λ b. few_never b _ (within_never i b.left _ (within_never j b.right _ (never_answer 5 _)))

product_never : (l : List ℕ) (i : ℕ) (r : List ℕ) (j : ℕ) (out : List ℕ) → Never 5 (made_of l i r j out)
unfolding made_of made_with product_of
product_never l i r j out =
    never_then 5 (factors_of l i r j) _ (factors_never l i r j) λ f. never_map 5 _ _ (bytes_never _ out (never_map 5 _ _ (factors_never l i r j)))

joined_never : (l r : List ℕ) → Never 5 (joined_of l r)
unfolding joined_of
joined_never l r = never_then 5 (read_both l r) _ (both_never l r) λ b. never_test 5 _ 2 0 _ (omega arith) (few_never b _ (never_answer 5 _))

join_never : (l r : List ℕ) → Never 5 (join_of l r)
unfolding join_of
join_never l r = never_map 5 _ _ (joined_never l r)

entry_never : (l r : List ℕ) (n : ℕ) → Never 5 (entry_of l r n)
unfolding entry_of
entry_never l r n = never_then 5 (joined_of l r) _ (joined_never l r) λ ps. within_never n ps _ (never_answer 5 _)

question_never : (b e : List ℕ) (n words : ℕ) → Never 5 (question b e n words)
unfolding question
question_never b e n words =
    never_then 5 (read_both b e) _ (both_never b e) λ l. within_never n l.right _ (enough_never words _ (never_answer 5 _))

questions_never : (b e : List ℕ) (words : ℕ) → Never 5 (questions b e words)
unfolding questions
questions_never b e words = never_then 5 (read_both b e) _ (both_never b e) λ l. enough_never words _ (never_answer 5 _)

two_never : (l r : List ℕ) (words : ℕ) → Never 5 (two_lists l r words)
unfolding two_lists
two_never l r words =
    never_then 5 (read_both l r) _ (both_never l r) λ b. never_test 5 _ 2 0 _ (omega arith) (few_never b _ (enough_never words _ (never_answer 5 _)))

divided_never : (found : MathOption (List Pauli)) → Never 5 (quotient_bytes found)
unfolding quotient_bytes Never
divided_never (some ps) = tt
divided_never none = omega arith

quotient_never : (left right : Promise) (l r : List ℕ) (words : ℕ) → Never 5 (quotient_call left right l r words)
unfolding quotient_call
quotient_never left right l r words =
    never_then 5 (two_lists l r words) _ (two_never l r words) λ b. divided_never (try_quotient left right b.left b.right)

common_never : (l r : List ℕ) (words : ℕ) → Never 5 (common_call l r words)
unfolding common_call
common_never l r words = never_map 5 _ _ (two_never l r words)

-- ---- a line

single_never : (s : Sign) (l r : List ℕ) → Never 5 (single_call s l r)
unfolding single_call
single_never quotient l r = quotient_never no_promise no_promise l r work_words
single_never common l r = common_never l r work_words
single_never joined l r = join_never l r

value_never : (rolls : ℕ → List ℕ) (t : Tree) → Never 5 (value_of single_call rolls t)
unfolding value_of
value_never rolls (letter a) = never_answer 5 (rolls a)
value_never rolls (parens t) = value_never rolls t
value_never rolls (operation s l r) =
    never_then 5 (value_of single_call rolls l) _ (value_never rolls l) λ x.
    never_then 5 (value_of single_call rolls r) _ (value_never rolls r) λ y. single_never s x y

if_never : (t : Bool) (x y : Told Unit) → Never 5 x → Never 5 y → Never 5 (if t then x else y)
if_never true x y h l = h
if_never false x y h l = l

all_read_never : (rolls : List (List ℕ)) → Never 5 (all_read rolls)
unfolding all_read
all_read_never [] = never_answer 5 tt
all_read_never (b ∷ bs) =
    if_never (eqb (length b) 0) _ _ (all_read_never bs) (never_then 5 (read b) _ (read_never b) λ ps. all_read_never bs)

tree_never : (sent : ℕ → Bool) (t : Option Tree) → Never 5 (tree_told sent t)
unfolding Never
tree_never sent None = omega arith
tree_never sent (Some t) = never_test 5 _ 14 0 _ (omega arith) (never_test 5 _ 15 0 _ (omega arith) (never_answer 5 t))

checked_line_never : (line : List ℕ) (rolls : List (List ℕ)) (words : ℕ) → Never 5 (checked_line line rolls words)
unfolding checked_line line_told
checked_line_never line rolls words =
    never_then 5 (line_told (sent_of rolls) line) _ (never_test 5 _ 14 0 _ (omega arith) (tree_never (sent_of rolls) (tree_of line))) λ t.
    never_then 5 (all_read rolls) _ (all_read_never rolls) λ _. never_test 5 _ 9 0 _ (omega arith) (never_answer 5 t)

combine_never : (line : List ℕ) (rolls : List (List ℕ)) (words : ℕ) → Never 5 (combine_call line rolls words)
unfolding combine_call line_bytes
combine_never line rolls words =
    never_then 5 (checked_line line rolls words) _ (checked_line_never line rolls words) λ t. never_map 5 _ _ (value_never _ t)

-- ---- claims

claim_never : (promise : Promise) (b e : List ℕ) (n : ℕ) (c : MemberClaim) (words : ℕ) → Never 5 (member_call promise b e n c words)
unfolding member_call member_checked formed
claim_never promise b e n c words =
    never_map 5 _ _ (never_then 5 (read_both b e) _ (both_never b e) λ l.
    within_never n l.right _ (never_test 5 _ 16 0 _ (omega arith) (enough_never words _ (never_answer 5 _))))

absence_never : (b e : List ℕ) (n : ℕ) (ws : List ℕ) (m : ℕ) → Never 5 (absence_call b e n ws m)
unfolding absence_call absence_checked
absence_never b e n ws m =
    never_map 5 _ _ (never_then 5 (read_both b e) _ (both_never b e) λ l. never_then 5 (read ws) _ (read_never ws) λ sent.
    within_never n l.right _ (within_never m sent _ (never_answer 5 _)))

-- ---- a window

only_never : (ps : List Sparse) → Never 5 (only_one ps)
unfolding Never only_one
only_never [] = omega arith
only_never (p ∷ []) = tt
only_never (p ∷ q ∷ ps) = omega arith

sent_never : (w b : List ℕ) → Never 5 (sent w b)
unfolding sent check_in few_inside
sent_never w b =
    never_then 5 (and_then (read b) only_one) _ (never_then 5 (read b) _ (read_never b) only_never) λ p.
    never_then 5 (read (roll_in w)) _ (read_never (roll_in w)) λ ps. never_test 5 _ 7 0 _ (omega arith) (never_answer 5 _)

module _ {A : Type 0} where
  keep_never : (n : List ℕ) (a : A) (ms : List (Named A)) → Never 5 (keep_few n a ms)
  unfolding keep_few
  keep_never n a ms = never_test 5 _ 20 0 _ (omega arith) (never_answer 5 _)

  known_never : (o : Option A) → Never 5 (known o)
  unfolding Never known
  known_never None = omega arith
  known_never (Some a) = tt

-- ---- the report

rolls_never : (input : List ℕ) → Never 5 (rolls_in input)
unfolding rolls_in
rolls_never input = never_test 5 _ 1 0 _ (omega arith) (never_test 5 _ 1 0 _ (omega arith) (never_test 5 _ 1 0 _ (omega arith) (never_answer 5 _)))

line_never : {A : Type 0} (roll : ℕ) (t : Told A) (next : A → List ℕ) → Never 5 t → ((a : A) → NoFiveIn (next a)) → NoFiveIn (or_refused_in roll t next)
unfolding or_refused_in Never
line_never roll (answer a) next h l = l a
line_never roll (refused n k) next h l = inr (n, k, roll, h, refl)

text_never : (input : List ℕ) → NoFiveIn (text_of input)
unfolding text_of
text_never input =
    line_never 1 (rolls_in input) _ (rolls_never input) λ r. line_never 1 (read r.generators) _ (read_never r.generators) λ gs.
    line_never 2 (read r.elements) _ (read_never r.elements) λ es. inl (paulis gs, paulis es, refl)

-- ---- every call

reasons_never : (reason : Reason) → number_of reason ≡ 5 → ⊥
reasons_never Length e = omega arith
reasons_never Paulis e = omega arith
reasons_never Entry e = omega arith
reasons_never Exponent e = omega arith
reasons_never Rising e = omega arith
reasons_never Qubits e = omega arith
reasons_never Number e = omega arith
reasons_never Work e = omega arith
reasons_never Listing e = omega arith
reasons_never Subgroup e = omega arith
reasons_never Output e = omega arith
reasons_never Support e = omega arith
reasons_never Line e = omega arith
reasons_never Depth e = omega arith
reasons_never Claim e = omega arith
reasons_never Width e = omega arith
reasons_never Checks e = omega arith
reasons_never Mark e = omega arith
reasons_never Marks e = omega arith

pub calls_never_five : CallsNeverFive
unfolding saved returned deleted made allowed_width count_of one_qubit_call stretch_of standard_generators rank_call phases_call abelian_call stabilizer_call size_call factorization_call symplectic_call order_call modulo_call factorizations_call joined_sizes standard_bound listing
calls_never_five =
    record {
      check_roll = λ b. never 5 _ (never_map 5 length (read b) (read_never b));
      product = λ l i r j out. never 5 _ (product_never l i r j out);
      one_qubit_product = λ a b. never 5 _ (never_test 5 _ 8 0 _ (omega arith) (never_test 5 _ 8 0 _ (omega arith) (never_answer 5 _)));
      join = λ l r out. never 5 _ (bytes_never (join_of l r) out (join_never l r));
      joined_entry = λ l r n. never 5 _ (entry_never l r n);
      joined_body = λ l r n. never 5 _ (never_map 5 _ (entry_of l r n) (entry_never l r n));
      standard_generators = λ b words out. never 5 _ (bytes_never _ out (never_map 5 _ _ (one_never b words)));
      rank = λ b words. never 5 _ (never_map 5 _ _ (one_never b words));
      phases = λ promise b words. never 5 _ (never_map 5 _ _ (one_never b words));
      is_abelian = λ promise b words. never 5 _ (never_map 5 _ _ (one_never b words));
      is_stabilizer_group = λ promise b words. never 5 _ (never_map 5 _ _ (one_never b words));
      log2_size = λ promise b words. never 5 _ (never_map 5 _ _ (one_never b words));
      indexed_factorization_of = λ promise b e n words out. never 5 _ (member_never _ out (never_map 5 _ _ (question_never b e n words)));
      elements = λ promise start count b words out. never 5 _ (bytes_never _ out (elements_never promise start count b words));
      symplectic_form_of = λ b words out. never 5 _ (bytes_never _ out (never_map 5 _ _ (one_never b words)));
      partial_cmp = λ left right l r words. never 5 _ (never_map 5 _ _ (two_never l r words));
      modulo = λ right l r words out. never 5 _ (bytes_never _ out (never_map 5 _ _ (two_never l r words)));
      try_quotient = λ left right l r words out. never 5 _ (bytes_never _ out (quotient_never left right l r words));
      bitand = λ l r words out. never 5 _ (bytes_never _ out (common_never l r words));
      indexed_factorizations_of = λ promise b e words out. never 5 _ (results_never _ out (never_map 5 _ _ (questions_never b e words)));
      joined_sizes = λ l r. never 5 _ (never_map 5 _ _ (joined_never l r));
      standard_bound = λ b. never 5 _ (never_map 5 _ _ (read_never b));
      page_size = λ promise start count b words. never 5 _ (page_never promise start count b words);
      centralizer_of = λ b words out. never 5 _ (bytes_never _ out (own_never b words));
      centralizer_within = λ b named words out. never 5 _ (bytes_never _ out (within_call_never b named words));
      combine = λ line rolls words out. never 5 _ (bytes_never _ out (combine_never line rolls words));
      accepts_membership = λ promise b e n c words. never 5 _ (claim_never promise b e n c words);
      accepts_absence = λ b e n ws m. never 5 _ (absence_never b e n ws m);
      window_make = λ w width. never 5 _ (never_test 5 _ 17 0 _ (omega arith) (never_test 5 _ 17 0 _ (omega arith) (never_answer 5 _)));
      window_send = λ w b. never 5 _ (sent_never w b);
      window_save = λ w name. never 5 _ (never_map 5 _ _ (keep_never name (state w) (marks_in w)));
      window_return = λ w name. never 5 _ (never_map 5 _ _ (known_never (kept_at name (marks_in w))));
      window_delete = λ w name. never 5 _ (never_map 5 _ _ (known_never (kept_at name (marks_in w))));
      closing_report = λ input words out. never 5 _ (bytes_never _ out (enough_never words _ (never_answer 5 (text_of input))));
      report_text = text_never;
      reasons = reasons_never;
    }
