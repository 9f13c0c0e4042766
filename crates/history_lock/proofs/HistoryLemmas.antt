-- Histories one entry, or one part, longer.
use Rattle.std.proofs.Common.{◌≡◌, ℕ, List, [], ◌∷◌, ◌++◌, drop, refl, ap, sym, subst, ◌∙◌}
use Rattle.history_lock.specs.declared.entry.Entry.{Entry}
use Rattle.history_lock.specs.Step.{Stepped}
use Rattle.history_lock.specs.History.{run, IsLegal, entry_at, requests_of}

module _ {State Request Answer : Type 0} (step : State → Request → Stepped State Answer) where
  pub run-append : (first : State) (front later : List (Entry Request Answer)) → run step first (front ++ later) ≡ run step (run step first front) later
  run-append first [] later = refl
  run-append first (entry ∷ front) later = run-append (step first entry.request).state front later

  module _ (Fits : State → Request → Type 0) where
    pub legal_front : (first : State) (front later : List (Entry Request Answer)) → IsLegal step Fits first (front ++ later) → IsLegal step Fits first front
    legal_front first [] later legal = tt
    legal_front first (entry ∷ front) later legal = (legal.0, legal.1, legal_front (step first entry.request).state front later legal.2)

    pub legal-append : (first : State) (front later : List (Entry Request Answer)) → IsLegal step Fits first front → IsLegal step Fits (run step first front) later → IsLegal step Fits first (front ++ later)
    legal-append first [] later legal more = more
    legal-append first (entry ∷ front) later legal more = (legal.0, legal.1, legal-append (step first entry.request).state front later legal.2 more)

    pub legal_snoc : (first : State) (history : List (Entry Request Answer)) (seat : ℕ) (request : Request)
        → IsLegal step Fits first history → Fits (run step first history) request
        → IsLegal step Fits first (history ++ entry_at step (run step first history) seat request ∷ [])
    legal_snoc first history seat request legal fits = legal-append first history (entry_at step (run step first history) seat request ∷ []) legal (fits, refl, tt)

    pub same_answers : (first : State) (one other : List (Entry Request Answer))
        → IsLegal step Fits first one → IsLegal step Fits first other → requests_of one ≡ requests_of other → one ≡ other
    same_answers first [] [] legal legal' same = refl
    same_answers first [] (e ∷ other) legal legal' same = absurd cc
    same_answers first (e ∷ one) [] legal legal' same = absurd cc
    same_answers first (e ∷ one) (f ∷ other) legal legal' same =
        let tails : requests_of one ≡ requests_of other = ap (λ asked. drop 1 asked) same in
        let heads : (e.seat, e.request) ≡ (f.seat, f.request) = cc same in
        let request : e.request ≡ f.request = ap (λ (asked : ℕ × Request). asked.1) heads in
        let answers : e.answers ≡ f.answers = legal.1 ∙ (ap (λ r. (step first r).answers) request ∙ sym legal'.1) in
        let later = same_answers (step first e.request).state one other legal.2 (subst (λ r. IsLegal step Fits (step first r).state other) (sym request) legal'.2) tails in
        λ i. record { seat = (heads i).0; request = (heads i).1; answers = answers i } ∷ later i
