-- Queries by key and by id are refused for nothing, and change nothing but the time.
use Rattle.std.proofs.Common.{ℕ, List, [], refl}
use Rattle.log_model.specs.Keys.{query_of}
use Rattle.request_fields.specs.Requests.{QuerySaid, ViewSaid}
use Rattle.request_fields.specs.declared.request.Request.TheVariants.{Query, ViewById}
use Rattle.broker_model.specs.State.{seen}
use Rattle.broker_model.specs.Refusals.{refusal_of}
use Rattle.broker_model.specs.Appended.{drafts_of}
use Rattle.broker_model.specs.Answers.{request_answer, found_reply, query_ext, viewed}
use Rattle.broker_model.specs.Step.{changed, request_changed}
use Rattle.core_log.specs.declared.parts.Parts.{Parts}
use Rattle.broker_core.proofs.ReadLemmas.{Reads, asked_by}

pub reads_query : (old : Parts) (link : ℕ) (host : List ℕ) (now : ℕ) (q : QuerySaid)
    → Reads old (asked_by link host now (Query q)) (λ s. found_reply query_ext (query_of (seen s).records q.topic q.key q.from q.to q.most))
unfolding drafts_of request_answer changed request_changed refusal_of
reads_query old link host now q = record { none = λ s. refl; answer = λ s. refl; change = λ s. refl; allowed = λ s are. refl }

pub reads_view : (old : Parts) (link : ℕ) (host : List ℕ) (now : ℕ) (q : ViewSaid)
    → Reads old (asked_by link host now (ViewById q)) (λ s. found_reply [] (viewed (seen s).records q.offset))
unfolding drafts_of request_answer changed request_changed refusal_of
reads_view old link host now q = record { none = λ s. refl; answer = λ s. refl; change = λ s. refl; allowed = λ s are. refl }
