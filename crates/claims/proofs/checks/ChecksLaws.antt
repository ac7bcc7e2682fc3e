-- Laws of a chain of tests, by what each test tells by itself.
use Rattle.std.proofs.Common.{◌≡◌, ℕ, Bool, true, false, refl}
use Rattle.pauli.specs.Told.{Told, answer, refused, refuse_if}
use Rattle.pauli.proofs.roll.Told.{refused_none}

-- a test by itself tells no more than that it passed
abbrev pub alone : Bool → ℕ → ℕ → Told (Unit {0})
alone t n p = refuse_if t n p (answer tt)

module _ {A : Type 0} (t : Bool) (n p : ℕ) (next : Told A) where
  pub test_stops : {k q : ℕ} → refused k q ≡ alone t n p → refuse_if t n p next ≡ refused k q
  unfolding refuse_if
  test_stops {k} {q} e = go t e
    where
      go : (s : Bool) → refused k q ≡ alone s n p → refuse_if s n p next ≡ refused k q
      go true f = cc
      go false f = absurd (refused_none k q (tt {0}) f)

  pub test_goes : answer (tt {0}) ≡ alone t n p → (t ≡ false) × (refuse_if t n p next ≡ next)
  unfolding refuse_if
  test_goes e = go t e
    where
      go : (s : Bool) → answer (tt {0}) ≡ alone s n p → (s ≡ false) × (refuse_if s n p next ≡ next)
      go true f = absurd (refused_none n p (tt {0}) (cc))
      go false f = (refl, refl)
