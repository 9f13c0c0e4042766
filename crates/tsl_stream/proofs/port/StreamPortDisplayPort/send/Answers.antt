use Rattle.std.proofs.Common.{◌≡◌, ℕ, ◌≤◌, ◌<◌, Bool, false, List, [], ◌∷◌, ◌++◌, length, take, drop, sym, ap, ◌∙◌, subst, arith}
use Rattle.std.proofs.lemmas.List.{take_all, take_rest}
use Rattle.ctl_io.specs.Faults.{one_more}
use Rattle.ctl_io.specs.Sink.{appended}
use Rattle.ctl_io.proofs.SinkLemmas.{appended-nil}
use Rattle.tsl_stream.specs.WritingInside.{half_after}
use Rattle.tsl_stream.specs.Port.{HasPackets, IsJust}
use Rattle.tsl_stream.specs.WritingInside.{sent_text}
use Rattle.tsl_stream.proofs.FeedLemmas.{within_rest}
use Rattle.tsl_stream.proofs.HalfLemmas.{front_more, if_appended}
use Rattle.tsl_stream.proofs.PortLemmas.{part_sent, whole_sent, just_sent, never_0}
use Rattle.tsl_stream.proofs.port.StreamPortDisplayPort.send.Goals as goal

pub loop-taken-preserved : goal.loop-taken-preserved
loop-taken-preserved g c =
    let so_far = c.loop-taken.invariant in
    let taken = c.loop-taken.taken in
    let text = c.loop-taken.self.text.items in
    let shown = c.deref.result.now in
    let is : shown ≡ text = c.deref.ensures.value in
    let count : length shown ≡ length text = ap (length {A = ℕ}) is in
    record {
      text = so_far.text;
      half = so_far.half;
      within = omega (arith, within_rest shown taken c.in-Took.count (omega (arith, so_far.within, count)) c.in-Took.ensures.within.1, count);
      written = front_more text _ taken c.in-Took.count _ _ _ so_far.written (take_rest shown taken ∙ ap (drop taken) is) c.in-Took.ensures.written;
      name = c.in-Took.ensures.name ∙ so_far.name;
      count = c.in-Took.ensures.count ∙ so_far.count;
    }

pub returns-in-Failed-clause-sent : goal.returns-in-Failed-clause-sent
returns-in-Failed-clause-sent g c = λ packets has.
    let so_far = c.loop-taken.invariant in
    let taken = c.loop-taken.taken in
    let before = c.args.self.now.half in
    let packet = c.args.packet.now in
    let sent = sent_text before packet in
    let count : length c.loop-taken.self.text.items ≡ length sent = ap (length {A = ℕ}) so_far.text in
    let few : taken < length sent = omega (arith, c.loop-taken-test.true, c.len.ensures, count) in
    let given : g.K.Sink.written c.write.new.self ≡ appended (g.K.Sink.written c.args.self.now.sink) (take taken sent) =
    c.in-Failed.ensures.written ∙ appended-nil _ ∙ so_far.written ∙ ap (λ (text : List ℕ). appended (g.K.Sink.written c.args.self.now.sink) (take taken text)) so_far.text in
    let half : c.ends_half-self.result ≡ half_after before (take taken sent) =
    c.ends_half-self.ensures
    ∙ ap (λ (half : Bool). half_after half (take taken c.deref-in-Failed.result.now)) so_far.half
    ∙ ap (λ (text : List ℕ). half_after before (take taken text)) (c.deref-in-Failed.ensures.value ∙ so_far.text) in
    let rose : g.K.Sink.faults c.write.new.self ≡ one_more (g.K.Sink.faults c.loop-taken.self.sink) = c.in-Failed.ensures.count in
    let P : List ℕ → Type 0 = λ text. HasPackets text packets before × (g.K.Sink.faults c.args.self.now.sink ≡ 0 → IsJust text packets before) in
    let Q : List ℕ → Type 0 = λ text. HasPackets text packets c.ends_half-self.result × (g.K.Sink.faults c.write.new.self ≡ 0 → IsJust text packets c.ends_half-self.result) in
    if_appended P Q _ _ (take taken sent) given
    (λ text has.
    let R : Bool → Type 0 = λ half. HasPackets (text ++ take taken sent) packets half in
    (subst R (sym half) (part_sent packets before packet taken c.requires few text has.0), λ none. absurd (never_0 _ (sym rose ∙ none))))
    has

pub returns-clause-sent : goal.returns-clause-sent
returns-clause-sent g c = λ packets has.
    let so_far = c.loop-taken.invariant in
    let taken = c.loop-taken.taken in
    let before = c.args.self.now.half in
    let packet = c.args.packet.now in
    let text = c.loop-taken.self.text.items in
    let all : length text ≤ taken = omega (arith, c.loop-taken-test.false, c.len.ensures) in
    let given : g.K.Sink.written c.loop-taken.self.sink ≡ appended (g.K.Sink.written c.args.self.now.sink) (sent_text before packet) =
    so_far.written ∙ ap (appended (g.K.Sink.written c.args.self.now.sink)) (take_all taken text all ∙ so_far.text) in
    let P : List ℕ → Type 0 = λ text. HasPackets text packets before × (g.K.Sink.faults c.args.self.now.sink ≡ 0 → IsJust text packets before) in
    let Q : List ℕ → Type 0 = λ text. HasPackets text (packets ++ packet ∷ []) false × (g.K.Sink.faults c.loop-taken.self.sink ≡ 0 → IsJust text (packets ++ packet ∷ []) false) in
    if_appended P Q _ _ (sent_text before packet) given
    (λ text has. (whole_sent packets before packet c.requires text has.0, λ none. just_sent packets before packet text (has.1 (sym so_far.count ∙ none))))
    has
