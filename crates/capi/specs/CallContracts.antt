-- What each kind of call promises: the answer's five numbers, the output at exit and the work area at exit, by what it was lent.
use Rattle.std.specs.Prelude.{◌≡◌, cond, List, ℕ, length, take, drop, Some, None}
use Rattle.std.proofs.Math.Option.{Option}
use Rattle.binar.specs.Layout.{form_stride, fits, formed}
use Rattle.binar.specs.Laid.{laid_out}
use Rattle.pauli.specs.Told.{Told, map_told}
use Rattle.pauli.specs.Writing.{told_bytes, left_in}
use Rattle.pauli.specs.JoinCalls.{product_of, made_of, stretch_of, roll_numbered, body_of}
use Rattle.pauli_theory.specs.Membership.{Factorization}
use Rattle.pauli_group.specs.WorkArea.{area_after}
use Rattle.pauli_group.specs.Calls.{told_member, member_left}
use Rattle.factorizations.specs.Calls.{told_results}
use Rattle.factorizations.specs.Records.{results_bytes}
use Rattle.combined_lists.specs.Combining.{checked_line, combine_call, line_area_after}
use Rattle.window.specs.History.{or_same}
use Rattle.window.specs.Layout.{front}
use Rattle.capi.specs.declared.answer.Answer.{Answer}
use Rattle.capi.specs.Code.{code_done, code_number, code_product, code_body, code_member, code_results, code_form}

-- a call that writes a roll, and uses no work area
pub record Writing (result : Told (List ℕ)) (out : List ℕ) (r : Answer) (out' : List ℕ) : Type 0 where
  pub told : r ≡ code_number (told_bytes result out)
  pub left : out' ≡ left_in result out

-- the product of factor i of the one roll and factor j of the other
pub record Multiplying (l : List ℕ) (i : ℕ) (r : List ℕ) (j : ℕ) (out : List ℕ) (found : Answer) (out' : List ℕ) : Type 0 where
  pub told : found ≡ code_product (made_of l i r j out)
  pub left : out' ≡ left_in (product_of l i r j) out

-- a call that answers by the code given, where `checked` is what the checks up to 9 tell
pub record Telling {A : Type 0} (code : Answer) (checked : Told A) (work : List ℕ) (r : Answer) (work' : List ℕ) : Type 0 where
  pub told : r ≡ code
  pub area : work' ≡ area_after checked work

-- a call that makes or changes a window
pub record Changing (bytes : Told (List ℕ)) (w : List ℕ) (r : Answer) (w' : List ℕ) : Type 0 where
  pub told : r ≡ code_done (map_told (λ bytes. tt) bytes)
  pub left : front w' ≡ or_same (front w) bytes

-- a call on a window's marks: all its bytes
pub record Marking (bytes : Told (List ℕ)) (w : List ℕ) (r : Answer) (w' : List ℕ) : Type 0 where
  pub told : r ≡ code_done (map_told (λ bytes. tt) bytes)
  pub left : w' ≡ or_same w bytes

-- a call that writes a roll, with a work area
pub record Listing {A : Type 0} (result : Told (List ℕ)) (checked : Told A) (work out : List ℕ) (r : Answer) (work' out' : List ℕ) : Type 0 where
  pub told : r ≡ code_number (told_bytes result out)
  pub left : out' ≡ left_in result out
  pub area : work' ≡ area_after checked work

-- the line l, with these rolls
pub record Combining (l : List ℕ) (rolls : List (List ℕ)) (work out : List ℕ) (r : Answer) (work' out' : List ℕ) : Type 0 where
  pub told : r ≡ code_number (told_bytes (combine_call l rolls (length work)) out)
  pub left : out' ≡ left_in (combine_call l rolls (length work)) out
  pub area : work' ≡ line_area_after (checked_line l rolls (length work)) work

-- membership
pub record Factoring {A : Type 0} (result : Told (Option Factorization)) (checked : Told A) (work out : List ℕ) (r : Answer) (work' out' : List ℕ) : Type 0 where
  pub told : r ≡ code_member (told_member result out)
  pub left : out' ≡ member_left result out
  pub area : work' ≡ area_after checked work

-- membership of a roll of elements
pub record FactoringAll {A : Type 0} (results : Told (List (Option Factorization))) (checked : Told A) (work out : List ℕ) (r : Answer) (work' out' : List ℕ) : Type 0 where
  pub told : r ≡ code_results (told_results results out)
  pub left : out' ≡ left_in (map_told results_bytes results) out
  pub area : work' ≡ area_after checked work

-- the lookup of a joined body: where it stands, and that the bytes there are the body; at a refusal both are empty
pub record Locating (l r : List ℕ) (n : ℕ) (found : Answer) : Type 0 where
  pub told : found ≡ code_body (stretch_of l r n)
  pub body : take found.third (drop found.second (roll_numbered found.first l r)) ≡ body_of l r n

-- the echelon form
pub record Forming (words : List ℕ) (width rows cols : ℕ) (r : Answer) (words' : List ℕ) : Type 0 where
  pub told : r ≡ code_form (cond (fits width rows cols (length words)) (Some (length (formed width rows cols words).pivots)) None)
  pub left : words' ≡ cond (fits width rows cols (length words)) (laid_out (form_stride width rows) (formed width rows cols words) words) words
