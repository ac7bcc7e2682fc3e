-- No call is refused with 5: document 02, L8, "Refusal 5 can no longer occur, which is to be shown".
use Rattle.std.specs.Prelude.{◌≡◌, ◌⊎◌, List, ℕ}
use Rattle.pauli.specs.declared.refusal.Reason.{Reason}
use Rattle.pauli.specs.JoinCalls.{made_of, join_of, entry_of, stretch_of}
use Rattle.pauli.specs.OldLimit.{NeverFive}
use Rattle.pauli.specs.OneQubit.{one_qubit_call}
use Rattle.pauli.specs.Pauli.{Pauli}
use Rattle.pauli.specs.Refusals.{number_of}
use Rattle.pauli.specs.Roll.{count_of}
use Rattle.pauli.specs.Writing.{told_bytes}
use Rattle.pauli_theory.specs.Group.{Promise}
use Rattle.pauli_theory.specs.Claims.{Claim}
use Rattle.pauli_group.specs.Calls.{standard_generators, rank_call, phases_call, abelian_call, stabilizer_call, size_call, factorization_call, told_member, elements_call, symplectic_call, order_call, modulo_call, quotient_call, common_call}
use Rattle.factorizations.specs.Calls.{factorizations_call, told_results}
use Rattle.sizes.specs.Calls.{joined_sizes, standard_bound, page_call}
use Rattle.centralizer.specs.Calls.{own_call, within_call}
use Rattle.combined_lists.specs.Combining.{combine_call}
use Rattle.claims.specs.Calls.{member_call, absence_call}
use Rattle.window.specs.Layout.{made, sent}
use Rattle.window.specs.MarkLayout.{saved, returned, deleted}
use Rattle.closing_report.specs.Lines.{refused_line}
use Rattle.closing_report.specs.Listing.{report, listing, text_of}

-- a text is the listing of two lists, or the line of a refusal with another number
abbrev pub NoFiveIn : List ℕ → Type 0
NoFiveIn text = ((gs es : List Pauli) × (text ≡ report gs es)) ⊎ ((n k roll : ℕ) × (n ≡ 5 → ⊥) × (text ≡ refused_line n k roll))

-- what each call tells, by the definition that its contract is equal to, whatever it is lent
pub record CallsNeverFive : Type 0 where
  pub check_roll : (b : List ℕ) → NeverFive (count_of b)
  pub product : (l : List ℕ) (i : ℕ) (r : List ℕ) (j : ℕ) (out : List ℕ) → NeverFive (made_of l i r j out)
  pub one_qubit_product : (a b : ℕ) → NeverFive (one_qubit_call a b)
  pub join : (l r out : List ℕ) → NeverFive (told_bytes (join_of l r) out)
  pub joined_entry : (l r : List ℕ) (n : ℕ) → NeverFive (entry_of l r n)
  pub joined_body : (l r : List ℕ) (n : ℕ) → NeverFive (stretch_of l r n)
  pub standard_generators : (b : List ℕ) (words : ℕ) (out : List ℕ) → NeverFive (told_bytes (standard_generators b words) out)
  pub rank : (b : List ℕ) (words : ℕ) → NeverFive (rank_call b words)
  pub phases : (promise : Promise) (b : List ℕ) (words : ℕ) → NeverFive (phases_call promise b words)
  pub is_abelian : (promise : Promise) (b : List ℕ) (words : ℕ) → NeverFive (abelian_call promise b words)
  pub is_stabilizer_group : (promise : Promise) (b : List ℕ) (words : ℕ) → NeverFive (stabilizer_call promise b words)
  pub log2_size : (promise : Promise) (b : List ℕ) (words : ℕ) → NeverFive (size_call promise b words)
  pub indexed_factorization_of : (promise : Promise) (b e : List ℕ) (n words : ℕ) (out : List ℕ)
      → NeverFive (told_member (factorization_call promise b e n words) out)
  pub elements : (promise : Promise) (start count : ℕ) (b : List ℕ) (words : ℕ) (out : List ℕ)
      → NeverFive (told_bytes (elements_call promise start count b words) out)
  pub symplectic_form_of : (b : List ℕ) (words : ℕ) (out : List ℕ) → NeverFive (told_bytes (symplectic_call b words) out)
  pub partial_cmp : (left right : Promise) (l r : List ℕ) (words : ℕ) → NeverFive (order_call left right l r words)
  pub modulo : (right : Promise) (l r : List ℕ) (words : ℕ) (out : List ℕ) → NeverFive (told_bytes (modulo_call right l r words) out)
  pub try_quotient : (left right : Promise) (l r : List ℕ) (words : ℕ) (out : List ℕ)
      → NeverFive (told_bytes (quotient_call left right l r words) out)
  pub bitand : (l r : List ℕ) (words : ℕ) (out : List ℕ) → NeverFive (told_bytes (common_call l r words) out)
  pub indexed_factorizations_of : (promise : Promise) (b e : List ℕ) (words : ℕ) (out : List ℕ)
      → NeverFive (told_results (factorizations_call promise b e words) out)
  pub joined_sizes : (l r : List ℕ) → NeverFive (joined_sizes l r)
  pub standard_bound : (b : List ℕ) → NeverFive (standard_bound b)
  pub page_size : (promise : Promise) (start count : ℕ) (b : List ℕ) (words : ℕ) → NeverFive (page_call promise start count b words)
  pub centralizer_of : (b : List ℕ) (words : ℕ) (out : List ℕ) → NeverFive (told_bytes (own_call b words) out)
  pub centralizer_within : (b named : List ℕ) (words : ℕ) (out : List ℕ) → NeverFive (told_bytes (within_call b named words) out)
  pub combine : (line : List ℕ) (rolls : List (List ℕ)) (words : ℕ) (out : List ℕ) → NeverFive (told_bytes (combine_call line rolls words) out)
  pub accepts_membership : (promise : Promise) (b e : List ℕ) (n : ℕ) (c : Claim) (words : ℕ) → NeverFive (member_call promise b e n c words)
  pub accepts_absence : (b e : List ℕ) (n : ℕ) (ws : List ℕ) (m : ℕ) → NeverFive (absence_call b e n ws m)
  pub window_make : (w : List ℕ) (width : ℕ) → NeverFive (made w width)
  pub window_send : (w b : List ℕ) → NeverFive (sent w b)
  pub window_save : (w name : List ℕ) → NeverFive (saved w name)
  pub window_return : (w name : List ℕ) → NeverFive (returned w name)
  pub window_delete : (w name : List ℕ) → NeverFive (deleted w name)
  pub closing_report : (input : List ℕ) (words : ℕ) (out : List ℕ) → NeverFive (told_bytes (listing input words) out)
  -- nor is a roll of the report's input
  pub report_text : (input : List ℕ) → NoFiveIn (text_of input)
  -- and no reason has the number 5
  pub reasons : (reason : Reason) → number_of reason ≡ 5 → ⊥
