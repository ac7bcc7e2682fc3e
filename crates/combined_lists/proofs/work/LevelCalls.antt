-- The calls that a level makes on lists in slots.
use Rattle.std.proofs.Common.{◌≡◌, ℕ, ◌+◌, ◌-◌, ◌≤◌, ◌<◌, Some, List, ◌∷◌, length, take, drop, get_or, Result, Option as CodeOption, arith}
use Rattle.std.specs.Prelude.{IfErr}
use Rattle.std.specs.Result.{IsErrAnd}
use Rattle.std.proofs.lemmas.List.{take_all}
use Rattle.pauli.specs.Pauli.{Pauli}
use Rattle.pauli.specs.Told.{refused}
use Rattle.pauli.specs.declared.refusal.Refusal.{Refusal}
use Rattle.pauli.specs.declared.roll.Roll.{Roll}
use Rattle.pauli.proofs.refusal.HandedOn.{handed_on}
use Rattle.combined_lists.specs.Line.{Sign, byte_of}
use Rattle.combined_lists.specs.Reader.{after, level, below}
use Rattle.combined_lists.specs.Inner.Worked.{Ready, Worked, Refuses, Operated}
use Rattle.combined_lists.specs.Inner.Slots.{on_lists, sent_in, lists_in, SlotHolds, SomeSlot}
use Rattle.combined_lists.proofs.work.WalkLaws.{Going, waits_below, left_holds, call_refuses, turns, slots_fit}

-- a refusal that is handed on is as it was
pub refusal_holds : {A : Type 0} (r : Result A Refusal) (q : Refusal) (P : Refusal → Type 0) → IsErrAnd r (λ e. e ≡ q) → P q → IfErr r P
refusal_holds r q P same p = rw (handed_on r q same) p

-- both operands are in slots
module _ (rolls : List (CodeOption Roll)) (s : Sign) (l : List ℕ) (top : ℕ) (rest : List ℕ) (w₀ w : List (List ℕ))
    (going : Going on_lists (lists_in rolls) SlotHolds (sent_in rolls) s l top rest w₀ w) (right : List ℕ) (sign : Some right ≡ after (byte_of s) rest)
    (next : List ℕ) (w₁ : List (List ℕ)) (operand : Worked on_lists (lists_in rolls) SlotHolds (below s) right next (top + 1) w w₁) where
  pub operands : Ready (sent_in rolls) (level s) l top → (top + 1 < 16) × SomeSlot w₁ top × SomeSlot w₁ (top + 1)
  operands ready = (
    omega (arith, slots_fit (level s) l top ready, waits_below s),
    record { list = going.value; has = left_holds s l top rest w₀ w going right sign next w₁ operand },
    record { list = operand.value; has = operand.holds },
  )

  pub turned : (w₂ : List (List ℕ))
      → ((x y : List Pauli) → SlotHolds w₁ top x → SlotHolds w₁ (top + 1) y → Operated on_lists SlotHolds s x y top w₁ w₂)
      → Going on_lists (lists_in rolls) SlotHolds (sent_in rolls) s l top next w₀ w₂
  turned w₂ called =
      turns s l top rest w₀ w going right sign next w₁ operand w₂
      (called _ _ (left_holds s l top rest w₀ w going right sign next w₁ operand) operand.holds)

  pub call_refused : (n p : ℕ)
      → ((x y : List Pauli) → SlotHolds w₁ top x → SlotHolds w₁ (top + 1) y → on_lists s x y ≡ refused n p)
      → Refuses on_lists (lists_in rolls) (level s) l n p
  call_refused n p called =
      call_refuses s l top rest w₀ w going right sign next w₁ operand n p
      (called _ _ (left_holds s l top rest w₀ w going right sign next w₁ operand) operand.holds)

-- ---- a byte that stands first, and those that follow it

pub one_first : {l : List ℕ} (b : ℕ) (rest : List ℕ) → l ≡ b ∷ rest → 1 ≤ length l
one_first b rest e = rw e (omega arith)

pub first_is : {l : List ℕ} (b : ℕ) (rest : List ℕ) → l ≡ b ∷ rest → get_or l 0 0 ≡ b
first_is b rest e = rw e

pub rest_is : {l : List ℕ} (b : ℕ) (rest : List ℕ) → l ≡ b ∷ rest → take (length l - 1) (drop 1 l) ≡ rest
rest_is b rest e = rw e (take_all (length (b ∷ rest) - 1) rest (omega arith))
