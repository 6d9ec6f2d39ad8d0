pub mod Kept
pub mod Waiting
pub mod CacheRuns
pub mod CacheCalls
pub mod MirrorRuns
pub mod MirrorCalls
pub mod Repairs
pub mod Naming
