-- No further link of a panel is taken.
use Rattle.std.proofs.Common.{◌≡◌, ◌≢◌, ℕ, ◌+◌, ◌||◌, Bool, true, false, cond, List, [], ◌∷◌, Option, refl, sym, ap, ◌∙◌, subst, inl, inr, ◌⊎◌}
use Rattle.std.proofs.lemmas.Bool.{false≢true}
use Rattle.ctl_io.specs.Custody.{Custody, lent, returned}
use Rattle.ctl_io.specs.Faults.{count_after}
use Rattle.ctl_net.specs.Acceptor.{LinkEnd, IsFresh, is_faulty_link}
use Rattle.ctl_net.specs.Net.{AcceptorEnd}
use Rattle.ctl_net.specs.declared.opening.Opening.{Opening}
use Rattle.plant_config.specs.Plant.{PlantData}
use Rattle.panel_session.specs.declared.serve.SessionEnd.{SessionEnd}
use Rattle.panel_session.specs.declared.serve.SessionEnd.TheVariants.{Ended, ReadFault, WriteFault, IdleOut, Spent}
use Rattle.panel_session.specs.declared.session.Session.{Session}
use Rattle.panel_session.specs.Served.{PlantSeat, TraceData, trace_failed_at}
use Rattle.panel_server.specs.declared.panel.PanelDone.{PanelDone}
use Rattle.panel_server.specs.PanelServed.{LinkServed, is_full, is_last_end, that_ended}
use Rattle.panel_server.specs.PanelServedInside.{GivesBack, ServedAll, ServedLinks, with_session}
use Rattle.panel_server.proofs.LinkLemmas.{false_too, filter_more, none_full, none_torn, torn_last}
use Rattle.panel_server.proofs.PanelLemmas.{ServedMore, ServesOn, handed_back, served_more}

-- of links of which none was such, and one more, there is some if that is such, and none if it isn't
some_not : {X : Type 0} → (b : Bool) (x : X) (xs : List X) → xs ≡ cond b (x ∷ []) [] → b ≡ true → xs ≢ []
some_not true x xs is such = λ none. absurd (let both : x ∷ [] ≡ [] = sym is ∙ none in cc)
some_not false x xs is such = absurd (false≢true such)

none_not : {X : Type 0} → (b : Bool) (x : X) (xs : List X) → xs ≡ cond b (x ∷ []) [] → b ≡ false → xs ≡ []
none_not true x xs is such = absurd (false≢true (sym such))
none_not false x xs is such = is

-- what an acceptor shows that is given back, part by part
abbrev parted : ℕ → Option Opening → ℕ → Custody LinkEnd → ℕ → ℕ → AcceptorEnd
parted panel opening sessions links next_faults done_faults = record {
  panel = panel;
  opening = opening;
  sessions = sessions;
  links = links;
  next_faults = next_faults;
  done_faults = done_faults;
}

-- it is the same where each part of it is
pub end_same : (panel : ℕ) {opening opening_then : Option Opening} {sessions sessions_then : ℕ} {links links_then : Custody LinkEnd} {next next_then back back_then : ℕ} → opening_then ≡ opening → sessions_then ≡ sessions → links_then ≡ links → next_then ≡ next → back_then ≡ back
    → parted panel opening_then sessions_then links_then next_then back_then ≡ parted panel opening sessions links next back
end_same panel {opening} {opening_then} {sessions} {sessions_then} {links} {links_then} {next} {next_then} {back} {back_then} o a b c d =
    ap (λ (one : Option Opening). parted panel one sessions_then links_then next_then back_then) o
    ∙ ap (λ (n : ℕ). parted panel opening n links_then next_then back_then) a
    ∙ ap (λ (custody : Custody LinkEnd). parted panel opening sessions custody next_then back_then) b
    ∙ ap (λ (n : ℕ). parted panel opening sessions links n back_then) c
    ∙ ap (λ (n : ℕ). parted panel opening sessions links next n) d

-- A link that was handed out was served and given back.
pub handed : (link : LinkEnd) (q between r : AcceptorEnd) → between.panel ≡ q.panel → between.opening ≡ q.opening → between.links ≡ lent q.links → between.next_faults ≡ q.next_faults → between.done_faults ≡ q.done_faults
    → r ≡ record between {
      links = returned link between.links;
      done_faults = count_after (is_faulty_link link.write_faults link.read_half) between.done_faults;
    } → handed_back link r.sessions q r
handed link q between r panel opening links next back is =
    let faulty : Bool = is_faulty_link link.write_faults link.read_half in
    is
    ∙ ap (λ (n : ℕ). record { panel = n; opening = between.opening; sessions = between.sessions; links = returned link between.links; next_faults = between.next_faults; done_faults = count_after faulty between.done_faults }) panel
    ∙ end_same q.panel opening refl (ap (λ (custody : Custody LinkEnd). returned link custody) links) next (ap (count_after faulty) back)
    ∙ ap (λ (n : ℕ). record q { sessions = n; links = returned link (lent q.links); done_faults = count_after faulty q.done_faults }) (sym (ap (λ (acceptor : AcceptorEnd). acceptor.sessions) is))

-- what became of such a link
abbrev the_link : {plant : PlantData} {panel turns : ℕ} {b : PlantSeat} {t : TraceData} (end : SessionEnd) (session : Session) (c : PlantSeat) (link : LinkEnd) (between r : AcceptorEnd) (u : TraceData)
    → IsFresh link → GivesBack plant panel turns end session b c link between r t u → LinkServed plant panel turns
the_link {b = b} {t = t} end session c link between r u fresh gives = record {
  end = end;
  session_then = session;
  seat = b;
  seat_then = c;
  link = link;
  link_then = gives.link_then;
  trace = t;
  trace_then = u;
  fresh = fresh;
  served = gives.served;
}

-- behind these ends a further link is taken
pub goes_on : (end : SessionEnd) → (end ≡ Ended) ⊎ ((end ≡ ReadFault) ⊎ ((end ≡ WriteFault) ⊎ ((end ≡ IdleOut) ⊎ (end ≡ Spent)))) → is_last_end end ≡ false
goes_on end (inl is) = ap is_last_end is
goes_on end (inr (inl is)) = ap is_last_end is
goes_on end (inr (inr (inl is))) = ap is_last_end is
goes_on end (inr (inr (inr (inl is)))) = ap is_last_end is
goes_on end (inr (inr (inr (inr is)))) = ap is_last_end is

-- and then no write of the trace has failed
pub sound_on : (done now : PanelDone) (end : SessionEnd) → now ≡ with_session end done → done.trace_failed ≡ false → is_last_end end ≡ false → now.trace_failed ≡ false
sound_on done now end is good more =
    ap (λ (done : PanelDone). done.trace_failed) is ∙ ap (λ (failed : Bool). failed || trace_failed_at end) good ∙ false_too (trace_failed_at end) (is_last_end end) (torn_last end) more

module _ {plant : PlantData} {panel turns : ℕ} {done : PanelDone} {a b : PlantSeat} {p q : AcceptorEnd} {s t : TraceData} where
  -- None is left,
  pub over_none : (d : ServedLinks plant panel turns done a b p q s t) → that_ended is_last_end d.links ≡ [] → done.trace_failed ≡ false → done.refused ≡ false → (r : AcceptorEnd) → r ≡ q → r.sessions ≡ 0
      → ServedAll plant panel turns done false a b p r s t
  over_none d none good asked r same empty =
      let Served : AcceptorEnd → Type 0 = λ acceptor. ServedAll plant panel turns done false a b p acceptor s t in
      subst Served (sym same) (record {
        served = d;
        over = record {
          full_is = λ is. absurd (false≢true is);
          full_not = λ is. none_full d.links none;
          failed = λ is. absurd (false≢true (sym good ∙ is));
          refused = λ is. absurd (false≢true (sym asked ∙ is));
          left = λ some. absurd (some (ap (λ (acceptor : AcceptorEnd). acceptor.sessions) (sym same) ∙ empty));
        };
      })

  -- or one was refused,
  pub over_refused : (d : ServedLinks plant panel turns done a b p q s t) → that_ended is_last_end d.links ≡ [] → done.trace_failed ≡ false → done.refused ≡ false → (r : AcceptorEnd) → r ≡ record q { next_faults = count_after true q.next_faults }
      → ServedAll plant panel turns (record done { refused = true }) false a b p r s t
  over_refused d none good asked r same =
      let Served : AcceptorEnd → Type 0 = λ acceptor. ServedAll plant panel turns (record done { refused = true }) false a b p acceptor s t in
      subst Served (sym same) (record {
        served = record {
          links = d.links;
          new = d.new;
          lines = d.lines;
          used = d.used;
          back = d.back;
          in_turn = d.in_turn;
          sees = d.sees;
          own = d.own;
          full = d.full;
          traced = d.traced;
          traces = d.traces;
          trace_count = d.trace_count;
          torn = d.torn;
          sessions = d.sessions;
          link_faults = d.link_faults;
          limits = d.limits;
          done_count = d.done_count;
          next_count = ap (count_after true) (d.next_count ∙ ap (λ (refused : Bool). count_after refused p.next_faults) asked);
        };
        over = record {
          full_is = λ is. absurd (false≢true is);
          full_not = λ is. none_full d.links none;
          failed = λ is. absurd (false≢true (sym good ∙ is));
          refused = λ is. none;
          left = λ some. inl refl;
        };
      })

  -- or none is asked for behind this one.
  pub over_last : (d : ServedLinks plant panel turns done a b p q s t) → that_ended is_last_end d.links ≡ [] → done.trace_failed ≡ false → done.refused ≡ false → (one : LinkServed plant panel turns) (r : AcceptorEnd) → ServedMore d one r
      → is_last_end one.end ≡ true → (full : Bool) → full ≡ is_full one.end → ServedAll plant panel turns (with_session one.end done) full a one.seat_then p r s one.trace_then
  over_last d none good asked one r more last full same =
      let Links : Type 0 = List (LinkServed plant panel turns) in
      let End = λ (is : SessionEnd → Bool) (one : LinkServed plant panel turns). is one.end in
      let fulls : that_ended is_full more.served.links ≡ cond (is_full one.end) (one ∷ []) [] = ap (that_ended is_full) more.links_are ∙ filter_more (End is_full) d.links one (none_full d.links none) in
      let torn : that_ended trace_failed_at more.served.links ≡ cond (trace_failed_at one.end) (one ∷ []) [] = ap (that_ended trace_failed_at) more.links_are ∙ filter_more (End trace_failed_at) d.links one (none_torn d.links none) in
      let lasts : that_ended is_last_end more.served.links ≡ cond (is_last_end one.end) (one ∷ []) [] = ap (that_ended is_last_end) more.links_are ∙ filter_more (End is_last_end) d.links one none in
      record {
        served = more.served;
        over = record {
          full_is = λ is. some_not (is_full one.end) one _ fulls (sym same ∙ is);
          full_not = λ is. none_not (is_full one.end) one _ fulls (sym same ∙ is);
          failed = λ is. some_not (trace_failed_at one.end) one _ torn (ap (λ (failed : Bool). failed || trace_failed_at one.end) (sym good) ∙ is);
          refused = λ is. absurd (false≢true (sym asked ∙ is));
          left = λ some. inr (some_not (is_last_end one.end) one _ lasts last);
        };
      }

  link_more : (d : ServedLinks plant panel turns done a b p q s t) → that_ended is_last_end d.links ≡ [] → done.trace_failed ≡ false → done.refused ≡ false → (end : SessionEnd) (session : Session) (c : PlantSeat) (link : LinkEnd) (between r : AcceptorEnd) (u : TraceData)
      (fresh : IsFresh link) (gives : GivesBack plant panel turns end session b c link between r t u) → between.panel ≡ q.panel → between.opening ≡ q.opening → q.sessions ≡ between.sessions + 1 → between.links ≡ lent q.links → between.next_faults ≡ q.next_faults → between.done_faults ≡ q.done_faults
      → ServedMore d (the_link end session c link between r u fresh gives) r
  link_more d none good asked end session c link between r u fresh gives here own used links next back =
      served_more d none good asked (the_link end session c link between r u fresh gives) refl refl r (used ∙ ap (λ (acceptor : AcceptorEnd). acceptor.sessions + 1) (sym gives.acceptor_is)) (handed gives.link_then q between r here own links next back gives.acceptor_is)

  -- It is the last,
  pub served_last : (on : ServesOn plant panel turns done a b p q s t) → done.trace_failed ≡ false → done.refused ≡ false → (end : SessionEnd) (session : Session) (c : PlantSeat) (link : LinkEnd) (between r : AcceptorEnd) (u : TraceData)
      → IsFresh link → GivesBack plant panel turns end session b c link between r t u → between.panel ≡ q.panel → between.opening ≡ q.opening → q.sessions ≡ between.sessions + 1 → between.links ≡ lent q.links → between.next_faults ≡ q.next_faults → between.done_faults ≡ q.done_faults
      → is_last_end end ≡ true → (full : Bool) → full ≡ is_full end → (now : PanelDone) → now ≡ with_session end done → ServedAll plant panel turns now full a c p r s u
  served_last on good asked end session c link between r u fresh gives here own used links next back last full same now is =
      let Done : PanelDone → Type 0 = λ now. ServedAll plant panel turns now full a c p r s u in
      subst Done (sym is) (over_last on.served on.none_last good asked (the_link end session c link between r u fresh gives) r (link_more on.served on.none_last good asked end session c link between r u fresh gives here own used links next back) last full same)

  -- or a further one is taken behind it.
  pub served_on : (on : ServesOn plant panel turns done a b p q s t) → done.trace_failed ≡ false → done.refused ≡ false → (end : SessionEnd) (session : Session) (c : PlantSeat) (link : LinkEnd) (between r : AcceptorEnd) (u : TraceData)
      → IsFresh link → GivesBack plant panel turns end session b c link between r t u → between.panel ≡ q.panel → between.opening ≡ q.opening → q.sessions ≡ between.sessions + 1 → between.links ≡ lent q.links → between.next_faults ≡ q.next_faults → between.done_faults ≡ q.done_faults
      → is_last_end end ≡ false → (now : PanelDone) → now ≡ with_session end done → ServesOn plant panel turns now a c p r s u
  served_on on good asked end session c link between r u fresh gives here own used links next back more now is =
      let one : LinkServed plant panel turns = the_link end session c link between r u fresh gives in
      let grown = link_more on.served on.none_last good asked end session c link between r u fresh gives here own used links next back in
      let Done : PanelDone → Type 0 = λ now. ServesOn plant panel turns now a c p r s u in
      let End = λ (one : LinkServed plant panel turns). is_last_end one.end in
      subst Done (sym is) (record {
        served = grown.served;
        none_last = none_not (is_last_end end) one _ (ap (that_ended is_last_end) grown.links_are ∙ filter_more End on.served.links one on.none_last) more;
      })
