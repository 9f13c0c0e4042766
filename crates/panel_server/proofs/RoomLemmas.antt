-- New sessions, one after another.
use Rattle.std.proofs.Common.{◌≡◌, ℕ, ◌+◌, List, [], ◌∷◌, ◌++◌, length, subst, sym, arith}
use Rattle.plant_config.specs.Plant.{PlantData}
use Rattle.panel_session.specs.declared.session.Session.{Session}
use Rattle.panel_session.specs.Session.{StandsFor}
use Rattle.panel_session.specs.SoFar.{nothing_yet}
use Rattle.panel_server.specs.ServeInside.{AreSessions}

-- one session more
pub sessions_more : (plant : PlantData) (from count : ℕ) (sessions : List Session) (one : Session) → AreSessions plant from sessions → count ≡ from + length sessions
    → StandsFor plant count one nothing_yet → AreSessions plant from (sessions ++ one ∷ [])
sessions_more plant from count [] one are at stands =
    let here : count ≡ from = omega (arith, at) in
    (subst (λ (n : ℕ). StandsFor plant n one nothing_yet) here stands, tt)
sessions_more plant from count (session ∷ sessions) one are at stands =
    (are.0, sessions_more plant (from + 1) count sessions one are.1 (omega (arith, at)) stands)

pub no_sessions : (plant : PlantData) (sessions : List Session) → sessions ≡ [] → AreSessions plant 0 sessions
no_sessions plant sessions none = subst (λ (all : List Session). AreSessions plant 0 all) (sym none) tt
