use Rattle.std.proofs.Common.{ℕ, List, ◌++◌, ◌∙◌, ap, sym, arith}
use Rattle.swp08_messages.specs.Text.{text}
use Rattle.swp08_messages.specs.declared.message.Message.{Message}
use Rattle.drill.specs.Draws.{next_seed}
use Rattle.drill.specs.Messages.{message_from}
use Rattle.drill.specs.Stream.{framed_as, stream}
use Rattle.drill.proofs.StreamLemmas.{stream_more, seed_more}
use Rattle.drill.proofs.panel_bytes.stream.Goals as goal

pub loop-at-preserved : goal.loop-at-preserved
loop-at-preserved c =
    let now = c.loop-at.invariant in
    let message = c.next_message-message.ensures.message ∙ ap (message_from c.args.panel) now.seed in
    record {
      made = c.send.ensures.bytes
          ∙ (ap (λ (front : List ℕ). front ++ framed_as c.loop-at.at (text c.next_message-message.result)) now.made
          ∙ (ap (λ (m : Message). stream c.args.number c.args.panel c.loop-at.at ++ framed_as c.loop-at.at (text m)) message ∙ sym (stream_more c.args.number c.args.panel c.loop-at.at)));
      seed = c.next_message-message.ensures.seed ∙ (ap (λ (seed : ℕ). next_seed (next_seed (next_seed seed))) now.seed ∙ sym (seed_more c.args.number c.args.panel c.loop-at.at));
      most = omega (arith, c.send.ensures.most, now.most);
      room = omega (arith, c.send.ensures.room, now.room);
      kept = omega (arith, c.send.ensures.kept, now.kept);
    }
