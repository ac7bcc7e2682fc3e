-- The answers of the lookup of a joined body.
use mathlib.Core.Path.{◌≡◌, sym}
use mathlib.Core.List.{List}
use Prim.Native.Nat.{ℕ, ◌+◌, ◌-◌, ◌*◌, ◌≤◌, ◌<◌}
use Rattle.pauli.specs.declared.roll.Entry.{Entry as CodeEntry}
use Rattle.pauli.specs.RollAnswers.{told_entry}
use Rattle.pauli.specs.Roll.{entry_at, count_of}
use Rattle.pauli.specs.Told.{answer, refused}
use Rattle.pauli.specs.JoinCalls.{counts_of, stretch_in, bytes_of, body_in}
use Rattle.pauli.proofs.joined.JoinLaws.{Joining, accepted_count, stretch_refused, stretch_past, stretch_left, stretch_right, body_refused, body_past, body_left, body_right}
use Rattle.capi.specs.declared.answer.Answer.{Answer}
use Rattle.capi.specs.Code.{code_refusal, code_body}
use Rattle.capi.specs.CallContracts.{Locating}

-- the stretch, by the entry that the code read
pub stretch_is : (roll : ℕ) (b : List ℕ) (n : ℕ) → count_of b ≡ answer n → (i : ℕ) (a : CodeEntry) → told_entry a ≡ entry_at b (2 + 10 * i)
    → stretch_in roll b i ≡ record { roll = roll; start = 2 + 10 * n + 4 * a.start; size = 4 * (a.xcount + a.zcount) }
unfolding stretch_in
stretch_is roll b n e i a f = rw (← f, ← accepted_count b n e)

module _ (l r : List ℕ) (n : ℕ) (found : Answer) where
  pub located_refused : (m p : ℕ) → counts_of l r ≡ refused m p → found ≡ code_refusal m p → Locating l r n found
  located_refused m p e f = rw f (record { told = rw (stretch_refused l r n m p e); body = sym (body_refused l r n m p e) })

  module _ (nl nr : ℕ) (j : Joining l r nl nr) where
    pub located_past : nl + nr ≤ n → found ≡ code_refusal 8 0 → Locating l r n found
    located_past h f = rw f (record { told = rw (stretch_past l r n nl nr j h); body = sym (body_past l r n nl nr j h) })

    pub located_left : n < nl → found ≡ code_body (answer (stretch_in 0 l n)) → Locating l r n found
    unfolding stretch_in bytes_of body_in
    located_left h f = rw f (record { told = rw (stretch_left l r n nl nr j h); body = sym (body_left l r n nl nr j h) })

    pub located_right : nl ≤ n → n - nl < nr → found ≡ code_body (answer (stretch_in 1 r (n - nl))) → Locating l r n found
    unfolding stretch_in bytes_of body_in
    located_right past h f =
        rw f (record { told = rw (stretch_right l r n nl nr j past h); body = sym (body_right l r n nl nr j past h) })
