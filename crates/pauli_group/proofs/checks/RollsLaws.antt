-- The generators' roll and the elements' roll: what their check tells.
use Rattle.std.proofs.Common.{◌≡◌, ℕ, List, length, sym, refl, ap, ◌∙◌}
use Rattle.pauli.specs.JoinCalls.{read_both, Counts}
use Rattle.pauli.specs.Roll.{read, count_of}
use Rattle.pauli.specs.Told.{Told, answer, refused, and_then, map_told}
use Rattle.pauli.proofs.joined.JoinLaws.{accepted}
use Rattle.pauli.proofs.roll.Told.{refused_none, map_refused}
use Rattle.pauli_group.specs.Calls.{roll_counts}

module _ (b e : List ℕ) where
  pub rolls_left : (m p : ℕ) → count_of b ≡ refused m p → refused m p ≡ roll_counts b e
  unfolding count_of roll_counts read_both and_then map_told
  rolls_left m p h = rw (map_refused length (read b) m p h)

  module _ (n : ℕ) (f : count_of b ≡ answer n) where
    pub rolls_right : (m p : ℕ) → count_of e ≡ refused m p → refused m p ≡ roll_counts b e
    unfolding count_of roll_counts read_both and_then map_told
    rolls_right m p h = rw ((accepted b n f).0, map_refused length (read e) m p h)

    pub rolls_both : (m : ℕ) → count_of e ≡ answer m → answer (record { left = n; right = m }) ≡ roll_counts b e
    unfolding roll_counts read_both and_then map_told
    rolls_both m g = rw ((accepted b n f).0, (accepted e m g).0, (accepted b n f).1, (accepted e m g).1)

  -- both rolls are accepted
  pub record Accepted (n m : ℕ) : Type 0 where
    pub generators : count_of b ≡ answer n
    pub elements : count_of e ≡ answer m

  pub both : (n m : ℕ) → answer (record { left = n; right = m }) ≡ roll_counts b e → Accepted n m
  both n m h = left (count_of b) refl
    where
      right : (k : ℕ) → count_of b ≡ answer k → (t : Told ℕ) → count_of e ≡ t → Accepted n m
      right k f (refused i p) g = absurd (refused_none i p _ (rolls_right k f i p g ∙ sym h))
      right k f (answer j) g =
          let told : ◌≡◌ {A = Told Counts} (answer (record { left = k; right = j })) (answer (record { left = n; right = m }))
          = rolls_both k f j g ∙ sym h in
          let same : ◌≡◌ {A = Counts} (record { left = k; right = j }) (record { left = n; right = m }) = cc in
          let a : k ≡ n = ap (λ (c : Counts). c.left) same in
          let c : j ≡ m = ap (λ (c : Counts). c.right) same in
          record { generators = f ∙ ap answer a; elements = g ∙ ap answer c }

      left : (t : Told ℕ) → count_of b ≡ t → Accepted n m
      left (refused i p) f = absurd (refused_none i p _ (rolls_left i p f ∙ sym h))
      left (answer k) f = right k f (count_of e) refl

  pub rolls_none : {m p : ℕ} → refused m p ≡ roll_counts b e → read_both b e ≡ refused m p
  unfolding roll_counts
  rolls_none h = map_refused _ (read_both b e) _ _ (sym h)
