use mir.Syntax.{named}
use denote.Param.Send.{sendable, shr_slice_sync}
use Rattle.std.proofs.Crossing.{crosses}
use Rattle.bolt_workers.proofs.Sent.{desk_send, heap_sync, lock_sync, unparker_sync}
use Rattle.bolt_workers.proofs.crew.run_all.Goals as goal

pub for_each_mut-requires-send-T : goal.for_each_mut-requires-send-T
for_each_mut-requires-send-T g c κs within = search (desk_send, sendable, crosses) depth 30 fits 20000

-- the runtime, the allocator, the lock, the unparkers and the gate
pub for_each_mut-requires-sync-F : goal.for_each_mut-requires-sync-F
for_each_mut-requires-sync-F g c κs within =
    let r = c.type_bounds.sync-R in
    let q = c.type_bounds.sync-G in
    record {
      shared = λ x b o ν. (
        (
          ((λ s. tt), r.shared x.0.now x.0.ref_ptr.0 x.0.ref_ptr.1 _),
          (
            ((λ s. tt), heap_sync.shared x.1.now x.1.ref_ptr.0 x.1.ref_ptr.1 κs.1.1.1.1.1.1.1.0),
            (
              ((λ s. tt), lock_sync.shared x.2.now x.2.ref_ptr.0 x.2.ref_ptr.1 κs.1.1.1.1.1.1.1.1.0),
              (
                (shr_slice_sync (named 9) κs.1.1.1.1.1.1.1.1.1.0 _ unparker_sync).shared x.3 b o ν,
                (((λ s. tt), q.shared x.4.now x.4.ref_ptr.0 x.4.ref_ptr.1 _), tt),
              ),
            ),
          ),
        ),
        (λ s. tt),
      );
    }
