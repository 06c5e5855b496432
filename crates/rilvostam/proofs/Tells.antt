-- Equal answers tell the same status and the same number. Assumes nothing.
use mathlib.Core.Path.{◌≡◌, ap}
use Rattle.answers.specs.declared.CStatus.{CStatus}

pub tells : {t u : CStatus} → t ≡ u → (t.status ≡ u.status) × (t.at ≡ u.at)
tells e = (ap (λ (t : CStatus). t.status) e, ap (λ (t : CStatus). t.at) e)
