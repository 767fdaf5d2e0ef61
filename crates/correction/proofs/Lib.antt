pub mod CorrectLaws
pub mod DecideLaws
pub mod FirstBrokenLaws
pub mod WriteLaws
