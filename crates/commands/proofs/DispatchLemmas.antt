-- The row of the command that words ask for is run.
use Rattle.std.proofs.Common.{◌≡◌, ℕ, Bool, true, false, List, refl, sym, ◌∙◌, subst}
use Rattle.std.proofs.lemmas.Bool.{false≢true}
use Rattle.panel_server.specs.PlantServed.{NetData}
use Rattle.command_words.specs.Parts.{NoMore, Prefix, AllSay}
use Rattle.command_rows.specs.Moment.{Moment}
use Rattle.command_rows.specs.Opener.{SaySome}
use Rattle.command_rows.specs.Row.{RunsOn}
use Rattle.command_drill.specs.Drill as drills
use Rattle.command_serve.specs.Serve as serves
use Rattle.commands.specs.declared.rows.Verb.{Verb}
use Rattle.commands.specs.declared.rows.Verb.TheVariants as verbs
use Rattle.commands.specs.Rows.{AsksFor, row_of, promise_of}
use Rattle.commands.specs.Program.{WaitingEnds}

-- words that ask for a command say something of its parts
pub say_some : (is_quiet : Bool) (words : List (List ℕ)) (verb : Verb) (behind : List (List ℕ)) → AsksFor is_quiet words verb behind → SaySome (row_of verb).form.parts (row_of verb).form.last behind
say_some is_quiet words verb behind asks = record {
  said = asks.said;
  say = subst (λ (b : List (List ℕ)). AllSay 0 (row_of verb).form.parts (row_of verb).form.last b asks.said) asks.behind_is asks.ask.say;
}

pub say_this : (is_quiet : Bool) (words : List (List ℕ)) (verb its : Verb) (behind : List (List ℕ)) → verb ≡ its → AsksFor is_quiet words verb behind → SaySome (row_of its).form.parts (row_of its).form.last behind
say_this is_quiet words verb its behind is asks =
    subst (λ (v : Verb). SaySome (row_of v).form.parts (row_of v).form.last behind) is (say_some is_quiet words verb behind asks)

-- the row of the command that is asked for runs so
pub at_verb : (verb its : Verb) (behind : List (List ℕ)) (before now : Moment) (status : ℕ) → verb ≡ its → RunsOn (row_of its).form.parts (row_of its).form.last (promise_of its) behind before now status
    → RunsOn (row_of verb).form.parts (row_of verb).form.last (promise_of verb) behind before now status
at_verb verb its behind before now status is runs =
    subst (λ (v : Verb). RunsOn (row_of v).form.parts (row_of v).form.last (promise_of v) behind before now status) (sym is) runs

-- no quiet command waits
pub not_waiting : {A : Type 0} (words : List (List ℕ)) (verb its : Verb) (behind : List (List ℕ)) → AsksFor false words verb behind → verb ≡ its → (row_of its).form.is_quiet ≡ true → A
not_waiting words verb its behind asks is quiet = absurd (false≢true (sym (subst (λ (v : Verb). (row_of v).form.is_quiet ≡ false) is asks.quiet) ∙ quiet))

module _ {P : Type 0} (WasSent : P → List (List ℕ) → Type 0) (faults : P → ℕ) where
  -- a drill
  pub by_drill : (words behind : List (List ℕ)) (verb : Verb) (before now : Moment) (net : NetData P) (status : ℕ) → AsksFor false words verb behind → verb ≡ verbs.Drill
      → RunsOn drills.parts NoMore drills.DrillRow behind before now status → WaitingEnds WasSent faults words before now net net status
  by_drill words behind verb before now net status asks is runs =
      let its = subst (λ (v : Verb). AsksFor false words v behind) is asks in
      let say = subst (λ (b : List (List ℕ)). AllSay 0 drills.parts NoMore b its.said) its.behind_is its.ask.say in
      record { verb = verbs.Drill; said = its.said; ask = its.ask; waits = (refl, runs its.said say) }

  -- a service
  pub by_service : (words behind : List (List ℕ)) (verb : Verb) (before now : Moment) (net net_then : NetData P) (status : ℕ) → AsksFor false words verb behind → verb ≡ verbs.Serve
      → serves.ServesOn WasSent faults behind before now net net_then status → WaitingEnds WasSent faults words before now net net_then status
  by_service words behind verb before now net net_then status asks is runs =
      let its = subst (λ (v : Verb). AsksFor false words v behind) is asks in
      let say = subst (λ (b : List (List ℕ)). AllSay 0 serves.parts Prefix b its.said) its.behind_is its.ask.say in
      record { verb = verbs.Serve; said = its.said; ask = its.ask; waits = runs its.said say }
