use Rattle.std.proofs.Common.{◌≡◌, List, [], ◌∷◌, ◌++◌, length, map, ◌∙◌, ap, sym, rules, arith}
use Rattle.std.specs.List.{concat}
use Rattle.std.proofs.lemmas.Grind.{common_steps}
use Rattle.ctl_net.specs.Cut.{cut}
use Rattle.ctl_net.proofs.CutLemmas.{cut_more, joined_more, lengths_more}
use Rattle.ctl_net.proofs.MemPortLemmas.{after_done}
use Rattle.ctl_net.proofs.memory.mem_port.MemPort.take.Goals as goal

-- the pieces with the packet behind them
pieces : (c : goal.After-push_reserved) → cut c.push_reserved.new.self.items c.append.new.out.items ≡ cut c.self.inside.lengths.items c.self.inside.bytes.items ++ c.args.packet.now ∷ []
pieces c =
    ap (λ (xs : List _). cut xs c.append.new.out.items) c.push_reserved.ensures.items
    ∙ ap (λ (xs : List _). cut (c.self.inside.lengths.items ++ length c.args.packet.now ∷ []) xs) c.append.ensures.bytes
    ∙ cut_more c.self.inside.lengths.items c.self.inside.bytes.items c.args.packet.now c.self.invariant.whole c.self.invariant.sized

pub invariant_of-self-2 : goal.invariant_of-self-2
invariant_of-self-2 c = record {
  whole = ap concat (pieces c) ∙ sym (c.append.ensures.bytes ∙ joined_more c.self.inside.lengths.items c.self.inside.bytes.items c.args.packet.now c.self.invariant.whole);
  sized = ap (λ (xs : List (List _)). map length xs) (pieces c) ∙ (lengths_more c.self.inside.lengths.items c.self.inside.bytes.items c.args.packet.now c.self.invariant.sized ∙ sym c.push_reserved.ensures.items);
  few = grind (arith, common_steps);
  room = search rules;
}

pub returns-clause-after : goal.returns-clause-after
returns-clause-after c =
    after_done c.args.self.now c.args.packet.now _ _ _ _ (search rules) (search rules) (search (rules, pieces c)) (search rules) (search rules)
