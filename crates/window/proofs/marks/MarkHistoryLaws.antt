-- Histories of windows with marks: what their operations tell, and what they leave under a name.
use Rattle.std.proofs.Common.{◌≡◌, ℕ, suc, ◌≤◌, List, [], ◌∷◌, ◌++◌, length, Some, None, Option, sym, refl, ap, ◌∙◌, arith, le-ltb, lt-ltb, ltb-false}
use Rattle.pauli.specs.Roll.{Sparse}
use Rattle.pauli.specs.Support.{All}
use Rattle.pauli.specs.Told.{Told, answer, refused, map_told}
use Rattle.pauli.proofs.roll.Told.{test_pass, test_refuses, test_passed}
use Rattle.window.specs.History.{accept, or_same}
use Rattle.window.specs.MarkHistory.{Named, most_marks, kept_at, keep, free, keep_few, known, Operation, sending, saving, returning, deleting, History, operate, history_after, history_of}
use Rattle.window.specs.MarkTheorems.{Once, told, TellsLaw, Spares, LastLaw}
use Rattle.window.proofs.marks.NameLaws.{keep_new, keep_used, kept_same, kept_other, freed_same, freed_other, once_keep, once_free, free_few}

-- ---- at most eight marks, each name once

pub record Few (h : History) : Type 0 where
  pub few : length h.marks ≤ most_marks
  pub once : Once h.marks

module _ {A : Type 0} (n : List ℕ) (a : A) (ms : List (Named A)) where
  pub few_kept : length (keep n a ms) ≤ most_marks → keep_few n a ms ≡ answer (keep n a ms)
  unfolding keep_few
  few_kept h = test_pass _ 20 0 _ (le-ltb most_marks (length (keep n a ms)) h)

  pub many_kept : suc most_marks ≤ length (keep n a ms) → keep_few n a ms ≡ refused 20 0
  unfolding keep_few
  many_kept h = test_refuses _ 20 0 _ (lt-ltb most_marks (length (keep n a ms)) h)

  pub kept_few : (ks : List (Named A)) → keep_few n a ms ≡ answer ks → (keep n a ms ≡ ks) × (length (keep n a ms) ≤ most_marks)
  unfolding keep_few
  kept_few ks e =
      let (few, same) = test_passed _ 20 0 _ ks e in
      ((cc), ltb-false most_marks (length (keep n a ms)) few)

module _ (w : ℕ) where
  few_next : (h : History) (o : Operation) → Few h → Few (or_same h (operate w h o))
  unfolding or_same operate map_told known
  few_next h (sending b) f = go (accept w h.checks b)
    where
      go : (t : Told (List Sparse)) → Few (or_same h (map_told (λ ps. record { checks = ps; marks = h.marks }) t))
      go (answer ps) = record { few = f.few; once = f.once }
      go (refused n p) = f
  few_next h (saving n) f = go (keep_few n h.checks h.marks) (kept_few n h.checks h.marks)
    where
      go : (t : Told (List (Named (List Sparse)))) → ((ks : List (Named (List Sparse))) → t ≡ answer ks → (keep n h.checks h.marks ≡ ks) × (length (keep n h.checks h.marks) ≤ most_marks))
          → Few (or_same h (map_told (λ ms. record { checks = h.checks; marks = ms }) t))
      go (answer ks) is =
          let (e, l) = is ks refl in
          record { few = rw (← e) l; once = rw (← e) (once_keep n h.checks h.marks f.once) }
      go (refused m p) is = f
  few_next h (returning n) f = go (kept_at n h.marks)
    where
      go : (t : Option (List Sparse)) → Few (or_same h (map_told (λ ps. record { checks = ps; marks = h.marks }) (known t)))
      go (Some ps) = record { few = f.few; once = f.once }
      go None = f
  few_next h (deleting n) f = go (kept_at n h.marks)
    where
      go : (t : Option (List Sparse)) → Few (or_same h (map_told (λ ps. record { checks = h.checks; marks = free n h.marks }) (known t)))
      go (Some ps) = record { few = omega (arith, f.few, free_few n h.marks); once = once_free n h.marks f.once }
      go None = f

  few_after : (os : List Operation) (h : History) → Few h → Few (history_after w h os)
  unfolding history_after
  few_after [] h f = f
  few_after (o ∷ os) h f = few_after os (or_same h (operate w h o)) (few_next h o f)

  abbrev none : History
  none = record { checks = []; marks = [] }

  pub few_of : (os : List Operation) → Few (history_of w os)
  unfolding history_of most_marks
  few_of os = few_after os none (record { few = omega arith; once = tt })

  -- ---- what they tell

  module _ (h : History) (n : List ℕ) (f : Few h) where
    saves : ((kept_at n h.marks ≡ None) × (length h.marks ≡ most_marks) → ⊥) → told (operate w h (saving n)) ≡ answer tt
    unfolding operate map_told
    saves d = go (kept_at n h.marks) refl
      where
        go : (t : Option (List Sparse)) → kept_at n h.marks ≡ t → told (map_told {B = History} (λ ms. record { checks = h.checks; marks = ms }) (keep_few n h.checks h.marks)) ≡ answer tt
        go None e = rw (few_kept n h.checks h.marks (rw (keep_new n h.checks h.marks e) (room λ l. d (e, l)))) refl
          where
            room : (length h.marks ≡ most_marks → ⊥) → suc (length h.marks) ≤ most_marks
            room l = omega (arith, f.few, l)
        go (Some ps) e = rw (few_kept n h.checks h.marks (rw (keep_used n h.checks ps h.marks e) f.few)) refl

    pub tells : TellsLaw w h n
    unfolding operate map_told known
    tells = record {
      full = λ e l. ap (map_told (λ ms. record { checks = h.checks; marks = ms })) (many_kept n h.checks h.marks (omega (arith, keep_new n h.checks h.marks e, l)));
      saves = saves;
      unknown_return = λ e. ap (λ (t : Option (List Sparse)). map_told (λ ps. record { checks = ps; marks = h.marks }) (known t)) e;
      returns = λ ps e. ap (λ (t : Option (List Sparse)). map_told (λ ps. record { checks = ps; marks = h.marks }) (known t)) e;
      unknown_delete = λ e. ap (λ (t : Option (List Sparse)). map_told (λ (ps : List Sparse). record { checks = h.checks; marks = free n h.marks }) (known t)) e;
      deletes = λ ps e. ap (λ (t : Option (List Sparse)). told (map_told {B = History} (λ (ps : List Sparse). record { checks = h.checks; marks = free n h.marks }) (known t))) e;
    }

  -- ---- what is left under a name

  module _ (n : List ℕ) where
    spared_next : (h : History) (o : Operation) → Spares n o → kept_at n (or_same h (operate w h o)).marks ≡ kept_at n h.marks
    unfolding or_same operate map_told known
    spared_next h (sending b) s = go (accept w h.checks b)
      where
        go : (t : Told (List Sparse)) → kept_at n (or_same h (map_told (λ ps. record { checks = ps; marks = h.marks }) t)).marks ≡ kept_at n h.marks
        go (answer ps) = refl
        go (refused m p) = refl
    spared_next h (saving m) s = go (keep_few m h.checks h.marks) (kept_few m h.checks h.marks)
      where
        go : (t : Told (List (Named (List Sparse)))) → ((ks : List (Named (List Sparse))) → t ≡ answer ks → (keep m h.checks h.marks ≡ ks) × (length (keep m h.checks h.marks) ≤ most_marks))
            → kept_at n (or_same h (map_told (λ ms. record { checks = h.checks; marks = ms }) t)).marks ≡ kept_at n h.marks
        go (answer ks) is = ap (kept_at n) (sym (is ks refl).0) ∙ kept_other m h.checks n s h.marks
        go (refused k p) is = refl
    spared_next h (returning m) s = go (kept_at m h.marks)
      where
        go : (t : Option (List Sparse)) → kept_at n (or_same h (map_told (λ ps. record { checks = ps; marks = h.marks }) (known t))).marks ≡ kept_at n h.marks
        go (Some ps) = refl
        go None = refl
    spared_next h (deleting m) s = go (kept_at m h.marks)
      where
        go : (t : Option (List Sparse)) → kept_at n (or_same h (map_told (λ ps. record { checks = h.checks; marks = free m h.marks }) (known t))).marks ≡ kept_at n h.marks
        go (Some ps) = freed_other m n s h.marks
        go None = refl

    spared : (os : List Operation) (h : History) → All (Spares n) os → kept_at n (history_after w h os).marks ≡ kept_at n h.marks
    unfolding history_after
    spared [] h s = refl
    spared (o ∷ os) h s = spared os (or_same h (operate w h o)) s.1 ∙ spared_next h o s.0

    after_more : (before after : List Operation) (h : History) → history_after w h (before ++ after) ≡ history_after w (history_after w h before) after
    unfolding history_after
    after_more [] after h = refl
    after_more (o ∷ os) after h = after_more os after (or_same h (operate w h o))

    saved_next : (h : History) → told (operate w h (saving n)) ≡ answer tt → kept_at n (or_same h (operate w h (saving n))).marks ≡ Some h.checks
    unfolding or_same operate map_told
    saved_next h e = go (keep_few n h.checks h.marks) (kept_few n h.checks h.marks) e
      where
        go : (t : Told (List (Named (List Sparse)))) → ((ks : List (Named (List Sparse))) → t ≡ answer ks → (keep n h.checks h.marks ≡ ks) × (length (keep n h.checks h.marks) ≤ most_marks))
            → told (map_told {B = History} (λ ms. record { checks = h.checks; marks = ms }) t) ≡ answer tt
            → kept_at n (or_same h (map_told (λ ms. record { checks = h.checks; marks = ms }) t)).marks ≡ Some h.checks
        go (answer ks) is e = ap (kept_at n) (sym (is ks refl).0) ∙ kept_same n h.checks h.marks
        go (refused m p) is e = absurd (never m p e)
          where
            never : (m p : ℕ) → refused m p ≡ answer (tt {0}) → ⊥
            never m p e = let z : ◌≡◌ {A = ℕ} 0 1 = cc in omega arith

    deleted_next : (h : History) → Once h.marks → kept_at n (or_same h (operate w h (deleting n))).marks ≡ None
    unfolding or_same operate map_told known
    deleted_next h o = go (kept_at n h.marks) refl
      where
        go : (t : Option (List Sparse)) → kept_at n h.marks ≡ t → kept_at n (or_same h (map_told (λ ps. record { checks = h.checks; marks = free n h.marks }) (known t))).marks ≡ None
        go (Some ps) e = freed_same n h.marks o
        go None e = e

    return_next : (h : History) (ps : List Sparse) → kept_at n h.marks ≡ Some ps → history_after w h (returning n ∷ []) ≡ record { checks = ps; marks = h.marks }
    unfolding history_after or_same operate map_told known
    return_next h ps e = ap (λ (t : Option (List Sparse)). or_same h (map_told (λ qs. record { checks = qs; marks = h.marks }) (known t))) e

    pub last : (before after : List Operation) → All (Spares n) after → LastLaw w before n after
    unfolding history_of history_after kept_at
    last before after s =
        let h = history_after w none before in
        let kept = or_same h (operate w h (saving n)) in
        let now = after_more before (saving n ∷ after) none in
        record {
          saved = λ e. ap (λ (g : History). kept_at n g.marks) now ∙ spared after kept s ∙ saved_next h e;
          returned = λ e.
              after_more before (saving n ∷ (after ++ returning n ∷ [])) none ∙ after_more after (returning n ∷ []) kept
              ∙ return_next (history_after w kept after) h.checks (spared after kept s ∙ saved_next h e)
              ∙ ap (λ (g : History). record { checks = h.checks; marks = g.marks }) (sym now);
          deleted =
              ap (λ (g : History). kept_at n g.marks) (after_more before (deleting n ∷ after) none) ∙ spared after (or_same h (operate w h (deleting n))) s
              ∙ deleted_next h (few_after before none (record { few = omega arith; once = tt })).once;
          never_saved = spared after none s;
        }
