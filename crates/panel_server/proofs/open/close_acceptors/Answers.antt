use Rattle.std.proofs.Common.{rules, ◌≡◌, ℕ, ◌+◌, ◌-◌, ◌∷◌, ◌++◌, [], length, slice_get, All, List, sym, ap, ◌∙◌, subst, arith}
use Rattle.std.proofs.lemmas.List.{length-append}
use Rattle.ctl_net.specs.Net.{IsFreshAcceptor}
use Rattle.plant_config.specs.Plant.{PlantData}
use Rattle.panel_server.specs.PlantServed.{NetData, acceptor_openings}
use Rattle.panel_server.specs.ServeInside.{AreOwn, ComeBackFresh}
use Rattle.panel_server.proofs.OpenLemmas.{all_and_last, back_begins, back_next, own_front, own_last}
use Rattle.panel_server.proofs.open.close_acceptors.Goals as goal

pub loop-acceptor-init : goal.loop-acceptor-init
loop-acceptor-init g c =
    let net = g.N.Net.shows c.args.net.now in
    let count = length c.args.acceptors.now.items in
    let none : 0 ≡ count - count = omega arith in
    record {
      out = c.requires.out;
      fewer = omega arith;
      fresh = c.requires.fresh;
      own = λ plant own. own;
      back = λ plant own. subst (λ (n : ℕ). ComeBackFresh plant count n net net) none (back_begins plant count net);
    }

pub loop-acceptor-preserved : goal.loop-acceptor-preserved
loop-acceptor-preserved g c =
    let shows = g.N.Net.shows in
    let net = shows c.args.net.now in
    let count = length c.args.acceptors.now.items in
    let Fresh = λ (acceptor : g.row.N-A.Denot). IsFreshAcceptor (g.N.A.Acceptor.shows acceptor).links (g.N.A.Acceptor.shows acceptor).next_faults (g.N.A.Acceptor.shows acceptor).done_faults in
    let items = c.in-Some.ensures.items in
    let one_less : length c.loop-acceptor.acceptors.items ≡ length c.pop.new.self.items + 1 =
    ap (λ (all : List g.row.N-A.Denot). length all) items ∙ length-append c.pop.new.self.items (c.in-Some.acceptor ∷ []) in
    let both = all_and_last Fresh c.pop.new.self.items c.in-Some.acceptor (subst (λ (all : List g.row.N-A.Denot). All Fresh all) items c.loop-acceptor.invariant.fresh) in
    let fewer = c.loop-acceptor.invariant.fewer in
    let more : count - length c.pop.new.self.items ≡ count - length c.loop-acceptor.acceptors.items + 1 = omega (arith, one_less, fewer) in
    let of_acceptor = g.N.A.Acceptor.shows in
    let rest : List g.row.N-A.Denot = c.pop.new.self.items in
    let last : g.row.N-A.Denot = c.in-Some.acceptor in
    let owned : (plant : PlantData) → AreOwn of_acceptor plant c.args.acceptors.now.items → AreOwn of_acceptor plant (rest ++ last ∷ []) =
    λ plant own. subst (λ (all : List g.row.N-A.Denot). AreOwn of_acceptor plant all) items (c.loop-acceptor.invariant.own plant own) in
    let told : c.len.result ≡ length c.pop.new.self.items = search rules in
    let one_out = ap (λ (net : NetData g.row.N-P.Denot). net.acceptors.out) c.close_acceptor.ensures in
    record {
      out = omega (arith, one_less, one_out, c.loop-acceptor.invariant.out);
      fewer = omega (arith, one_less, fewer);
      fresh = both.0;
      own = λ plant own. own_front of_acceptor plant rest last (owned plant own);
      back = λ plant own. subst (λ (end : NetData g.row.N-P.Denot). ComeBackFresh plant count (count - length c.pop.new.self.items) net end) (sym c.close_acceptor.ensures)
          (back_next plant count net (count - length c.loop-acceptor.acceptors.items) (count - length c.pop.new.self.items) _ (shows c.loop-acceptor.net) (c.loop-acceptor.invariant.back plant own) more (omega (arith, told, one_less, fewer)) both.1
          (own_last of_acceptor plant rest last (owned plant own) ∙ ap (λ (n : ℕ). slice_get (acceptor_openings plant.server 0 plant.panels) n) (sym told)));
    }

pub returns-clause-back : goal.returns-clause-back
returns-clause-back g c = λ plant own.
    let shows = g.N.Net.shows in
    let count = length c.args.acceptors.now.items in
    let none : length c.loop-acceptor.acceptors.items ≡ 0 = search rules in
    let all : count - length c.loop-acceptor.acceptors.items ≡ count = omega (arith, none) in
    subst (λ (n : ℕ). ComeBackFresh plant count n (shows c.args.net.now) (shows c.loop-acceptor.net)) all (c.loop-acceptor.invariant.back plant own)
