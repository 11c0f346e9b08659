-- A request that came on some link, and what a call of the core does with it.
use Rattle.std.specs.Prelude.{ℕ, List, Result, IfOk}
use Rattle.request_fields.specs.declared.request.Request.{Request}
use Rattle.broker_model.specs.Events as model
use Rattle.broker_events.specs.declared.said.Said.{Said}
use Rattle.broker_events.specs.Steps.{Says}
use Rattle.core_log.specs.declared.parts.Parts.{Parts}
use Rattle.core_log.specs.Carries.{Carries}

-- whatever the link, the request is answered by what was said
abbrev pub CarriesRequest : Parts → List ℕ → ℕ → Request → Said → Parts → Type 0
CarriesRequest old host now request said new =
    (link : ℕ) → Carries old (model.Asks (record { link = link; host = host; now = now; request = request })) (Says said) new

-- whatever the link and the host, the request is answered by what was said, where anything was
abbrev pub CarriesAsked : {E : Type 0} → Parts → ℕ → Request → Result Said E → Parts → Type 0
CarriesAsked old now request result new = (link : ℕ) (host : List ℕ)
    → IfOk result (λ said. Carries old (model.Asks (record { link = link; host = host; now = now; request = request })) (Says said) new)
