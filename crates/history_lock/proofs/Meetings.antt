-- What a look tells once another was joined.
use Rattle.std.proofs.Common.{◌≡◌, ℕ, List, [], ◌∷◌, ◌++◌, All, ap, sym, ◌∙◌, subst, arith}
use mathlib.Core.List.{IsPrefix}
use Rattle.history_lock.specs.declared.entry.Entry.{Entry}
use Rattle.history_lock.specs.declared.view.View.{View}
use Rattle.history_lock.specs.History.{entries_of}
use Rattle.history_lock.specs.Plays.{was, longer, with_note, Tells}

module _ {State Request Answer : Type 0} where
  -- after a note was met, all begins with what the seat saw and with what the note saw
  pub met : (v w u : View State Request Answer) (own noted seen : List (Entry Request Answer)) (n : ℕ) → u ≡ with_note v w → Tells u → own ≡ v.seen → noted ≡ w.seen → seen ≡ u.seen → v.numbers ≡ n ∷ []
      → IsPrefix own seen × IsPrefix noted seen × (entries_of n seen ≡ entries_of n own)
  met v w u own noted seen n is tells own_is noted_is seen_is number =
      let told : Tells (with_note v w) = subst Tells is tells in
      let one = told 0 (was v) (omega arith) in
      let two = told 1 (was w) (omega arith) in
      let l : seen ≡ longer v.seen w.seen = seen_is ∙ ap (λ (x : View State Request Answer). x.seen) is in
      let mine = subst (λ (ns : List ℕ). All (λ k. entries_of k (longer v.seen w.seen) ≡ entries_of k v.seen) ns) number one.1 0 0 (omega arith) in (
        (one.0.0, ap (λ x. x ++ one.0.0) own_is ∙ (one.0.1 ∙ sym l)),
        (two.0.0, ap (λ x. x ++ two.0.0) noted_is ∙ (two.0.1 ∙ sym l)),
        ap (entries_of n) l ∙ (mine ∙ ap (entries_of n) (sym own_is)),
      )
