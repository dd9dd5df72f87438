-- The conditions on a language hold for a stronger kept property if they hold for a weaker one.
use Rattle.mesh_semantics.specs.Language.{Language}
use Rattle.mesh_semantics.specs.Config.{Config}
use Rattle.mesh_semantics.specs.Requests.{Requests, AreServed, KnownNames}

module _ {S : Type 0} (g : Language S) (W V : Config S → Type 0) (more : (c : Config S) → V c → W c) where
  pub requests_within : Requests g W → Requests g V
  requests_within r = record {
    waiting_kind = r.waiting_kind;
    waiting_frames = r.waiting_frames;
    waiting_callers = r.waiting_callers;
    waiting_given = r.waiting_given;
    given_frames = r.given_frames;
    given_callers = r.given_callers;
    stepped_callers = λ c o x w. r.stepped_callers c o x (more c w);
    done_callers = λ c o x w. r.done_callers c o x (more c w);
    returned_callers = λ c o x k v w. r.returned_callers c o x k v (more c w);
    picked_callers = λ c o x alts i w. r.picked_callers c o x alts i (more c w);
    serving_callers = λ c o x alts i m caller args y w. r.serving_callers c o x alts i m caller args y (more c w);
    faulted_callers = λ c o x e w. r.faulted_callers c o x e (more c w);
    root_callers = r.root_callers;
    made_class = r.made_class;
    made_callers = r.made_callers;
    served_waits = λ c b y k w. r.served_waits c b y k (more c w);
  }

  pub names_within : KnownNames g W → KnownNames g V
  names_within r = record {
    call_names = λ c o x b m args w. r.call_names c o x b m args (more c w);
    given_names = λ c o x s v w. r.given_names c o x s v (more c w);
    message_names = λ c s r' w. r.message_names c s r' (more c w);
  }

  pub served_within : AreServed g W → AreServed g V
  served_within r c o x b m w = r c o x b m (more c w)
