-- Two requests are the same where the comparison of all their fields says so.
use Rattle.std.specs.Prelude.{◌==◌}
use Rattle.std.proofs.Common.{◌≡◌, ℕ, Bool, true, Option, Some, None, refl, sym, ap, subst}
use mathlib.Core.Bool.{true≢false, beq}
use denote.Enum.Bare.{sameb, same_true}
use Rattle.std.specs.Cmp.{unsigned_Decides, booleans_Decides}
use Rattle.std.proofs.lemmas.Bool.{and_parts}
use Rattle.swp08_messages.specs.declared.point.Point.{Point}
use Rattle.swp08_messages.specs.declared.go_status.GoStatus.{GoStatus}
use Rattle.swp08_messages.specs.declared.validity.Validity.{Validity}
use Rattle.swp08_messages.specs.declared.message.Message.{Message}
use Rattle.swp08_messages.specs.declared.message.Message.TheVariants.{Interrogate, Connect, Tally, Connected, ProtectAsk, ProtectTally, ProtectConnect, ProtectConnected, ProtectDisconnect, ProtectDisconnected, DumpAsk, SourceNamesAsk, SourceNameAsk, DestNamesAsk, DestNameAsk, Store, Go, Stored, GoDone, EntryAsk, Entry, ExtInterrogate, ExtConnect, ExtTally, ExtConnected}
use Rattle.swp08_messages.specs.contracts.go_status.GoStatus as statuses
use Rattle.swp08_messages.specs.contracts.validity.Validity as validities
use Rattle.swp08_messages.specs.contracts.point.PointPartialEq.TheImpl as points
use Rattle.swp08_messages.specs.contracts.message.MessagePartialEq.TheImpl as messages
use Rattle.plant_core.specs.declared.request.Request.{Request}
use Rattle.plant_core.specs.declared.request.Request.TheVariants.{Told, Poll, Leave, DisplayPoll}
use Rattle.plant_core.specs.contracts.request.RequestPartialEq.TheImpl as requests
use Rattle.plant_core.specs.contracts.request.RequestEq.TheImpl.Laws.{laws-law}

abbrev pub request_eq : Request → Request → Bool
request_eq = (requests.ghosts).eq

abbrev message_eq : Message → Message → Bool
message_eq = (messages.ghosts).eq

abbrev point_eq : Point → Point → Bool
point_eq = (points.ghosts).eq

same_number : (a b : ℕ) → (a == b) ≡ true → a ≡ b
same_number a b e = (unsigned_Decides a b).0 e

same_bool : (a b : Bool) → beq a b ≡ true → a ≡ b
same_bool a b e = (booleans_Decides a b).0 e

same_point : (a b : Point) → point_eq a b ≡ true → a ≡ b
same_point a b e =
    let p = and_parts _ _ e in
    let q = and_parts _ _ p.1 in
    λ i. record { matrix = same_number a.matrix b.matrix p.0 i; level = same_number a.level b.level q.0 i; dest = same_number a.dest b.dest q.1 i }

-- Sources are compared as those of two connects of one point.
abbrev origin : Point
origin = record { matrix = 0; level = 0; dest = 0 }

abbrev source_eq : Option ℕ → Option ℕ → Bool
source_eq a b = message_eq (Connect origin a) (Connect origin b)

same_source : (a b : Option ℕ) → source_eq a b ≡ true → a ≡ b
same_source None None e = refl
same_source None (Some b) e = absurd (true≢false (sym e))
same_source (Some a) None e = absurd (true≢false (sym e))
same_source (Some a) (Some b) e = ap Some (same_number a b e)

same_status : (a b : GoStatus) → sameb statuses.the_type a b ≡ true → a ≡ b
same_status a b e = same_true statuses.the_type tt a b e

same_validity : (a b : Validity) → sameb validities.the_type a b ≡ true → a ≡ b
same_validity a b e = same_true validities.the_type tt a b e

same_message : (a b : Message) → message_eq a b ≡ true → a ≡ b
same_message (Interrogate a0) (Interrogate b0) e = ap Interrogate (same_point a0 b0 e)
same_message (Connect a0 a1) (Connect b0 b1) e =
    let p0 = and_parts _ _ e in
    λ i. Connect (same_point a0 b0 p0.0 i) (same_source a1 b1 p0.1 i)
same_message (Tally a0 a1) (Tally b0 b1) e =
    let p0 = and_parts _ _ e in
    λ i. Tally (same_point a0 b0 p0.0 i) (same_source a1 b1 p0.1 i)
same_message (Connected a0 a1) (Connected b0 b1) e =
    let p0 = and_parts _ _ e in
    λ i. Connected (same_point a0 b0 p0.0 i) (same_source a1 b1 p0.1 i)
same_message (ProtectAsk a0) (ProtectAsk b0) e = ap ProtectAsk (same_point a0 b0 e)
same_message (ProtectTally a0 a1 a2) (ProtectTally b0 b1 b2) e =
    let p0 = and_parts _ _ e in
    let p1 = and_parts _ _ p0.1 in
    λ i. ProtectTally (same_point a0 b0 p0.0 i) (same_bool a1 b1 p1.0 i) (same_number a2 b2 p1.1 i)
same_message (ProtectConnect a0 a1) (ProtectConnect b0 b1) e =
    let p0 = and_parts _ _ e in
    λ i. ProtectConnect (same_point a0 b0 p0.0 i) (same_number a1 b1 p0.1 i)
same_message (ProtectConnected a0 a1 a2) (ProtectConnected b0 b1 b2) e =
    let p0 = and_parts _ _ e in
    let p1 = and_parts _ _ p0.1 in
    λ i. ProtectConnected (same_point a0 b0 p0.0 i) (same_bool a1 b1 p1.0 i) (same_number a2 b2 p1.1 i)
same_message (ProtectDisconnect a0 a1) (ProtectDisconnect b0 b1) e =
    let p0 = and_parts _ _ e in
    λ i. ProtectDisconnect (same_point a0 b0 p0.0 i) (same_number a1 b1 p0.1 i)
same_message (ProtectDisconnected a0 a1 a2) (ProtectDisconnected b0 b1 b2) e =
    let p0 = and_parts _ _ e in
    let p1 = and_parts _ _ p0.1 in
    λ i. ProtectDisconnected (same_point a0 b0 p0.0 i) (same_bool a1 b1 p1.0 i) (same_number a2 b2 p1.1 i)
same_message (DumpAsk a0 a1) (DumpAsk b0 b1) e =
    let p0 = and_parts _ _ e in
    λ i. DumpAsk (same_number a0 b0 p0.0 i) (same_number a1 b1 p0.1 i)
same_message (SourceNamesAsk a0 a1 a2) (SourceNamesAsk b0 b1 b2) e =
    let p0 = and_parts _ _ e in
    let p1 = and_parts _ _ p0.1 in
    λ i. SourceNamesAsk (same_number a0 b0 p0.0 i) (same_number a1 b1 p1.0 i) (same_number a2 b2 p1.1 i)
same_message (SourceNameAsk a0 a1 a2 a3) (SourceNameAsk b0 b1 b2 b3) e =
    let p0 = and_parts _ _ e in
    let p1 = and_parts _ _ p0.1 in
    let p2 = and_parts _ _ p1.1 in
    λ i. SourceNameAsk (same_number a0 b0 p0.0 i) (same_number a1 b1 p1.0 i) (same_number a2 b2 p2.0 i) (same_number a3 b3 p2.1 i)
same_message (DestNamesAsk a0 a1) (DestNamesAsk b0 b1) e =
    let p0 = and_parts _ _ e in
    λ i. DestNamesAsk (same_number a0 b0 p0.0 i) (same_number a1 b1 p0.1 i)
same_message (DestNameAsk a0 a1 a2) (DestNameAsk b0 b1 b2) e =
    let p0 = and_parts _ _ e in
    let p1 = and_parts _ _ p0.1 in
    λ i. DestNameAsk (same_number a0 b0 p0.0 i) (same_number a1 b1 p1.0 i) (same_number a2 b2 p1.1 i)
same_message (Store a0 a1 a2) (Store b0 b1 b2) e =
    let p0 = and_parts _ _ e in
    let p1 = and_parts _ _ p0.1 in
    λ i. Store (same_point a0 b0 p0.0 i) (same_source a1 b1 p1.0 i) (same_number a2 b2 p1.1 i)
same_message (Go a0 a1) (Go b0 b1) e =
    let p0 = and_parts _ _ e in
    λ i. Go (same_bool a0 b0 p0.0 i) (same_number a1 b1 p0.1 i)
same_message (Stored a0 a1 a2) (Stored b0 b1 b2) e =
    let p0 = and_parts _ _ e in
    let p1 = and_parts _ _ p0.1 in
    λ i. Stored (same_point a0 b0 p0.0 i) (same_source a1 b1 p1.0 i) (same_number a2 b2 p1.1 i)
same_message (GoDone a0 a1) (GoDone b0 b1) e =
    let p0 = and_parts _ _ e in
    λ i. GoDone (same_status a0 b0 p0.0 i) (same_number a1 b1 p0.1 i)
same_message (EntryAsk a0 a1) (EntryAsk b0 b1) e =
    let p0 = and_parts _ _ e in
    λ i. EntryAsk (same_number a0 b0 p0.0 i) (same_number a1 b1 p0.1 i)
same_message (Entry a0 a1 a2 a3 a4) (Entry b0 b1 b2 b3 b4) e =
    let p0 = and_parts _ _ e in
    let p1 = and_parts _ _ p0.1 in
    let p2 = and_parts _ _ p1.1 in
    let p3 = and_parts _ _ p2.1 in
    λ i. Entry (same_point a0 b0 p0.0 i) (same_source a1 b1 p1.0 i) (same_number a2 b2 p2.0 i) (same_number a3 b3 p3.0 i) (same_validity a4 b4 p3.1 i)
same_message (ExtInterrogate a0) (ExtInterrogate b0) e = ap ExtInterrogate (same_point a0 b0 e)
same_message (ExtConnect a0 a1) (ExtConnect b0 b1) e =
    let p0 = and_parts _ _ e in
    λ i. ExtConnect (same_point a0 b0 p0.0 i) (same_source a1 b1 p0.1 i)
same_message (ExtTally a0 a1) (ExtTally b0 b1) e =
    let p0 = and_parts _ _ e in
    λ i. ExtTally (same_point a0 b0 p0.0 i) (same_source a1 b1 p0.1 i)
same_message (ExtConnected a0 a1) (ExtConnected b0 b1) e =
    let p0 = and_parts _ _ e in
    λ i. ExtConnected (same_point a0 b0 p0.0 i) (same_source a1 b1 p0.1 i)
same_message a b e = absurd (true≢false (sym e))

abbrev panel_eq : ℕ → ℕ → Bool
panel_eq a b = request_eq (Leave a) (Leave b)

same_panel : (a b : ℕ) → panel_eq a b ≡ true → a ≡ b
same_panel a b e = same_number a b (and_parts _ _ e).0

-- two requests that compare as the same are the same
pub same_request : (a b : Request) → request_eq a b ≡ true → a ≡ b
same_request (Told a0 a1 a2) (Told b0 b1 b2) e =
    let p0 = and_parts _ _ e in
    let p1 = and_parts _ _ p0.1 in
    λ i. Told (same_panel a0 b0 p0.0 i) (same_number a1 b1 p1.0 i) (same_message a2 b2 p1.1 i)
same_request (Poll a0 a1 a2) (Poll b0 b1 b2) e =
    let p0 = and_parts _ _ e in
    let p1 = and_parts _ _ p0.1 in
    λ i. Poll (same_panel a0 b0 p0.0 i) (same_number a1 b1 p1.0 i) (same_number a2 b2 p1.1 i)
same_request (Leave a0) (Leave b0) e = ap Leave (same_panel a0 b0 e)
same_request (DisplayPoll a0 a1) (DisplayPoll b0 b1) e =
    let p0 = and_parts _ _ e in
    λ i. DisplayPoll (same_number a0 b0 p0.0 i) (same_bool a1 b1 p0.1 i)
same_request a b e = absurd (true≢false (sym e))

-- and the other way round
pub request_eq-same : (a b : Request) → a ≡ b → request_eq a b ≡ true
request_eq-same a b e = subst (λ other. request_eq a other ≡ true) e (laws-law.refl a)
