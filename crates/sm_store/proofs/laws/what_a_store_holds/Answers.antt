use Rattle.sm_store.proofs.StoreStands.{holds_images, holds_recover}
use Rattle.sm_store.proofs.HeldProofs.{base_holds_prop}
use Rattle.sm_store.proofs.laws.what_a_store_holds.Goals as goal

pub returns-clause-images : goal.returns-clause-images
returns-clause-images g c = holds_images

pub returns-clause-recovered : goal.returns-clause-recovered
returns-clause-recovered g c = holds_recover

pub returns-clause-proof : goal.returns-clause-proof
returns-clause-proof g c = base_holds_prop
